use Rattle.std.proofs.Common.{get_or, arith, sym, ◌∙◌, ap, ℕ, Some}
use Rattle.std.specs.List.{slice_range}
use Rattle.jl_io.proofs.CutLemmas.{get-parts_from, part_bounds}
use Rattle.jl_io.proofs.mem_shelf.part_of.Goals as goal

pub slice_bounds-result-count : goal.slice_bounds-result-count
slice_bounds-result-count c =
    let bounds = part_bounds 0 c.args.ends.now c.args.i c.requires.ordered c.requires.one in
    omega (arith, bounds.0, bounds.1, c.start_of-start.ensures)

pub slice_bounds-result-start : goal.slice_bounds-result-start
slice_bounds-result-start c =
    let bounds = part_bounds 0 c.args.ends.now c.args.i c.requires.ordered c.requires.one in
    omega (arith, bounds.0, bounds.1, c.start_of-start.ensures)

pub slice_bounds-result-end : goal.slice_bounds-result-end
slice_bounds-result-end c =
    let bounds = part_bounds 0 c.args.ends.now c.args.i c.requires.ordered c.requires.one in
    omega (arith, bounds.0, bounds.1, c.start_of-start.ensures)

pub returns : goal.returns
returns c =
    let bytes = c.args.bytes.now in
    let ends = c.args.ends.now in
    get-parts_from 0 ends bytes c.args.i c.requires.one
    ∙ ap (λ (start : ℕ). Some (slice_range bytes start (get_or ends c.args.i 0))) (sym c.start_of-start.ensures)
