use Rattle.jl_frames.proofs.Stretches.{index_laid}
use Rattle.try_summaries.proofs.runs.read.Goals as goal

pub read_run-requires-clause-laid : goal.read_run-requires-clause-laid
read_run-requires-clause-laid c = index_laid c.args.given.now.bytes.now c.args.given.now.frames.now c.requires.file.indexed
