use Rattle.jl_tape.proofs.RunLaws.{planned_runs}
use Rattle.jl_tape.proofs.laws.planned_runs.Goals as goal

pub returns : goal.returns
returns c = planned_runs
