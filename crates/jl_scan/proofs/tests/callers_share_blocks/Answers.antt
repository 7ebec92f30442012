use Rattle.std.proofs.Common.{rules}
use Rattle.jl_frames.proofs.Stretches.{index_laid}
use Rattle.jl_scan.proofs.tests.callers_share_blocks.Goals as goal

pub with_scans-requires-clause-file : goal.with_scans-requires-clause-file
with_scans-requires-clause-file g c =
    let space = c.in_ok-space.space in
    record {
      passed = c.tables_of_eight-options.ensures space;
      short = search rules;
      laid = index_laid space c.in_ok-frames.frames c.in_ok-frames.ensures;
      cover = c.in_ok-plan.ensures.cover;
    }
