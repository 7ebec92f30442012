use Rattle.std.proofs.Common.{◌≡◌, ◌+◌, ◌*◌, ◌-◌, ◌≤◌, None, length, slice_range, take}
use Rattle.jl_base.specs.Results.{joined}
use Rattle.jl_rows.specs.Files.{frame_rows, placed_on, rows}
use Rattle.jl_tape.specs.Tapes.{HasRows, reading_of}
use Rattle.jl_tape.proofs.read.read_frame.Given as goal

abbrev pub invariant-by_row : goal.invariant-by_row
invariant-by_row l = record {
  inside : l.place ≤ l.end;
  counted : l.at + 2 * l.count ≤ l.place;
  more : l.at + 2 * length l.tape ≤ l.place + 2 * length l.fn.tape;
  longer : length l.fn.tape ≤ length l.tape;
  kept : take (length l.fn.tape) l.tape ≡ l.fn.tape;
  read : joined (reading_of l.bytes l.fn.tape None) (frame_rows l.number (slice_range l.bytes l.at l.end)) ≡ joined (reading_of l.bytes l.tape None) (placed_on l.number l.count (rows (slice_range l.bytes l.place l.end)));
  has : HasRows l.bytes l.tape;
}

abbrev pub decreases-by_row : goal.decreases-by_row
decreases-by_row l = l.end - l.place
