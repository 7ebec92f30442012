use Rattle.std.proofs.Common.{◌≡◌, take, map, ap, ◌∙◌}
use Rattle.std.proofs.lemmas.List.{take_all}
use Rattle.once_cell.specs.Once.{cell_name}
use Rattle.jl_cells.proofs.KnowledgeLemmas.{new_row}
use Rattle.jl_cells.proofs.cells.Cells.pass.Goals as goal

pub returns : goal.returns
returns g c =
    let whole : take c.loop-cell.cell-index c.deref-cell-items.result.now ≡ c.self.inside.cells.items = take_all _ _ c.loop-cell-test.false ∙ c.deref-cell-items.ensures.value in
    new_row cell_name _ c.loop-cell.sights.items c.args.self.now c.loop-cell.invariant (ap (map cell_name) whole ∙ c.self.view_is)
