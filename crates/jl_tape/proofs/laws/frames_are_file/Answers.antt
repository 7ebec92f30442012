use Rattle.jl_tape.proofs.RunLaws.{frames_are_file}
use Rattle.jl_tape.proofs.laws.frames_are_file.Goals as goal

pub returns : goal.returns
returns c = frames_are_file
