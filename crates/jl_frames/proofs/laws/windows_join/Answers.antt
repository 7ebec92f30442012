use Rattle.jl_frames.proofs.WindowLaws.{windows_join}
use Rattle.jl_frames.proofs.laws.windows_join.Goals as goal

pub returns : goal.returns
returns c = windows_join
