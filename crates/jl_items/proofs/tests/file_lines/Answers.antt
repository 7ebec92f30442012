use Rattle.std.proofs.Common.{rules}
use Rattle.jl_frames.proofs.Stretches.{index_laid}
use Rattle.jl_items.proofs.tests.file_lines.Goals as goal

pub lines_of-requires-clause-file : goal.lines_of-requires-clause-file
lines_of-requires-clause-file g c κs within =
    let space = c.in_ok-space.space in
    record {
      passed = c.tables_of_eight-options.ensures space;
      short = search rules;
      laid = index_laid space c.in_ok-frames.frames c.in_ok-frames.ensures;
      cover = c.in_ok-plan.ensures.cover;
    }
