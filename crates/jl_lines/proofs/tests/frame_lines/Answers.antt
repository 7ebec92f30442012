use Rattle.jl_frames.proofs.Stretches.{index_laid}
use Rattle.jl_lines.proofs.tests.frame_lines.Goals as goal

pub read_run-requires-clause-laid : goal.read_run-requires-clause-laid
read_run-requires-clause-laid g c =
    rw c.bytes-bytes.ensures.all (index_laid c.args.space.now c.args.frames.now c.requires.indexed)
