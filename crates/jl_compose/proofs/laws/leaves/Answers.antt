use Rattle.jl_compose.proofs.Leaves.{leaves_turn, leaves_settle}
use Rattle.jl_compose.proofs.laws.leaves.Goals as goal

pub returns-clause-turns : goal.returns-clause-turns
returns-clause-turns c = leaves_turn

pub returns-clause-settle : goal.returns-clause-settle
returns-clause-settle c = leaves_settle
