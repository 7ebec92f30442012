use Rattle.jl_compose.proofs.Turning.{unit_first, unit_second}
use Rattle.jl_compose.proofs.laws.unit_is_neutral.Goals as goal

pub returns-clause-first : goal.returns-clause-first
returns-clause-first c = unit_first

pub returns-clause-second : goal.returns-clause-second
returns-clause-second c = unit_second
