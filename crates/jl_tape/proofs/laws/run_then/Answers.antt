use Rattle.jl_tape.proofs.RunLaws.{run_then}
use Rattle.jl_tape.proofs.laws.run_then.Goals as goal

pub returns : goal.returns
returns c = run_then
