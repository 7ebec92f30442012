use Rattle.jl_scan.proofs.CellLemmas.{edge_is_power}
use Rattle.jl_scan.proofs.laws.edges.Goals as goal

pub returns : goal.returns
returns c = edge_is_power
