use Rattle.jl_state.proofs.RunLaw.{runs_decode}
use Rattle.jl_state.proofs.laws.runs_decode.Goals as goal

pub returns : goal.returns
returns c = runs_decode
