use Rattle.jl_frames.proofs.Following.{goes_on}
use Rattle.jl_frames.proofs.laws.windows_follow.Goals as goal

pub returns : goal.returns
returns c = goes_on
