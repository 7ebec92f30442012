use Rattle.jl_state.proofs.StepLaw.{opening_stands}
use Rattle.jl_state.proofs.laws.opening_stands.Goals as goal

pub returns : goal.returns
returns c = opening_stands
