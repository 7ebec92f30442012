use Rattle.jl_spell.proofs.FrameLaws.{frames_back}
use Rattle.jl_spell.proofs.laws.frames_read_back.Goals as goal

pub returns : goal.returns
returns c = frames_back
