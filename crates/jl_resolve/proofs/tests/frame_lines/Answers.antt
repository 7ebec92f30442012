use Rattle.jl_frames.proofs.Stretches.{index_laid}
use Rattle.jl_resolve.proofs.tests.frame_lines.Goals as goal

pub resolve-requires-clause-laid : goal.resolve-requires-clause-laid
resolve-requires-clause-laid c = index_laid c.args.space.now c.args.frames.now c.requires.indexed
