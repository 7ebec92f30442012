use Rattle.std.proofs.Common.{◌∙◌, not, sym, slice_get, ap}
use Rattle.jl_encode.specs.Desks.{is_mark}
use Rattle.jl_encode.proofs.UnusedLemmas.{passed_by}
use Rattle.jl_encode.proofs.texts.first_unused.Goals as goal

pub loop-k-preserved : goal.loop-k-preserved
loop-k-preserved c = c.loop-k.invariant ∙ passed_by (λ j. not (is_mark c.args.item (slice_get c.args.marks.now j))) c.loop-k.k c.args.to c.loop-k-test.true (ap not (sym c.is_used.ensures ∙ c.if-not-is_used.false))
