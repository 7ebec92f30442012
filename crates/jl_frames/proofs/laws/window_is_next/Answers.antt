use Rattle.jl_frames.proofs.Following.{takes_next}
use Rattle.jl_frames.proofs.laws.window_is_next.Goals as goal

pub returns : goal.returns
returns c = takes_next
