use Rattle.jl_scan.proofs.CellLemmas.{cells_within, cells_apart, cells_filled}
use Rattle.jl_scan.proofs.laws.cells.Goals as goal

pub returns-clause-within : goal.returns-clause-within
returns-clause-within c = cells_within

pub returns-clause-apart : goal.returns-clause-apart
returns-clause-apart c = cells_apart

pub returns-clause-filled : goal.returns-clause-filled
returns-clause-filled c = cells_filled
