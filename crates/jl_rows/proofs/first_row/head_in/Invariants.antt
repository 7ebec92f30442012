use Rattle.std.proofs.Common.{◌≡◌, ◌+◌, ◌-◌, ◌≤◌, None, slice_range}
use Rattle.jl_base.specs.Results.{Reading}
use Rattle.jl_base.specs.declared.place.Fault.{Fault}
use Rattle.jl_rows.specs.Files.{Placed, frames, rows_then}
use Rattle.jl_rows.proofs.first_row.head_in.Given as goal

-- the frames so far have no rows; each took a byte
abbrev pub invariant-frames : goal.invariant-frames
invariant-frames l = record {
  start : l.at ≤ l.place;
  inside : l.place ≤ l.end;
  counted : l.frame + l.at ≤ l.first + l.place;
  whole : (frames (slice_range l.bytes l.place l.end)).fault ≡ None;
  rest : (B : Reading Placed Fault) → rows_then l.first (frames (slice_range l.bytes l.at l.end)).items B ≡ rows_then l.frame (frames (slice_range l.bytes l.place l.end)).items B;
}

abbrev pub decreases-frames : goal.decreases-frames
decreases-frames l = l.end - l.place
