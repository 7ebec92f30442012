use Rattle.std.proofs.Common.{◌≡◌, ◌++◌, length}
use Rattle.jl_base.specs.Items.{items_of}
use Rattle.jl_text.specs.Line.{text}
use Rattle.jl_resolve.proofs.maker.LineMakerMaker.make.Given as goal

abbrev pub invariant-items : goal.invariant-items
invariant-items l = text (items_of l.items) ≡ l.out ++ text (items_of l.rest)

abbrev pub decreases-items : goal.decreases-items
decreases-items l = length l.rest
