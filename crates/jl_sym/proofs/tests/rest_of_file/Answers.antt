use Rattle.jl_frames.proofs.Stretches.{index_laid}
use Rattle.jl_sym.proofs.tests.rest_of_file.Goals as goal

pub summarise-requires-clause-laid : goal.summarise-requires-clause-laid
summarise-requires-clause-laid g c = index_laid c.in_ok-space.space c.in_ok-frames.frames c.in_ok-frames.ensures
