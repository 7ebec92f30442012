use Rattle.std.proofs.Common.{◌≡◌, map, take}
use Rattle.std.specs.declared.option.Option.TheVariants.{None}
use Rattle.once_cell.specs.Once.{cell_name}
use Rattle.jl_cells.proofs.cells.Cells.pass.Given as goal

abbrev pub invariant-loop-cell : goal.invariant-loop-cell
invariant-loop-cell g l = l.sights.items ≡ map (λ c. record { cell = cell_name c; value = None }) (take l.cell-index l.cell-items)
