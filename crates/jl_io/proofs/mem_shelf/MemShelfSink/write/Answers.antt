use Rattle.std.proofs.Common.{◌∙◌, List, ℕ, take, drop, ap, arith}
use Rattle.std.proofs.lemmas.List.{drop-append-le}
use Rattle.jl_io.specs.Cuts.{parts_from}
use Rattle.jl_io.proofs.CutLemmas.{parts_from-append, held_parts}
use Rattle.jl_io.proofs.mem_shelf.MemShelfSink.write.Goals as goal

-- what is added stands behind the last part's end
pub returns-clause-adds : goal.returns-clause-adds
returns-clause-adds c =
    let shelf = c.args.self.now in
    let ends = shelf.ends.items in
    let bytes = shelf.bytes.items in
    let more = take c.min-count.result c.args.piece.now in
    let items = c.in-Ok.ensures.items in
    held_parts _ _ _ _
    (ap (λ (all : List ℕ). parts_from 0 ends all) items ∙ parts_from-append 0 ends bytes more shelf.ordered (omega (arith, shelf.begun, shelf.within, shelf.bytes.ok.0)))
    (ap (λ (all : List ℕ). drop shelf.start all) items ∙ drop-append-le shelf.start bytes more (omega (arith, shelf.within, shelf.bytes.ok.0)))
