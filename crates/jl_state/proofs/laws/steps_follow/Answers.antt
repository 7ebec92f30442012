use Rattle.jl_state.proofs.StepLaw.{steps_follow}
use Rattle.jl_state.proofs.laws.steps_follow.Goals as goal

pub returns : goal.returns
returns c = steps_follow
