use Rattle.std.proofs.Common.{◌≡◌, ◌+◌, ◌-◌, ◌≤◌, slice_range}
use Rattle.jl_rows.specs.Files.{frames, rows_on}
use Rattle.jl_rows.proofs.first_row.file_head.Given as goal

-- the rows of the file are those of what is left; each frame behind took a byte
abbrev pub invariant-frames : goal.invariant-frames
invariant-frames l = record {
  inside : l.at ≤ l.end;
  counted : l.frame ≤ l.at + 1;
  rest : rows_on 1 (frames l.bytes) ≡ rows_on l.frame (frames (slice_range l.bytes l.at l.end));
}

abbrev pub decreases-frames : goal.decreases-frames
decreases-frames l = l.end - l.at
