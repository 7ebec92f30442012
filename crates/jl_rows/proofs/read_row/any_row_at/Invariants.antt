use Rattle.std.proofs.Common.{◌≡◌, ◌+◌, ◌-◌, ◌≤◌, slice_range}
use Rattle.jl_rows.specs.Files.{rows, row_end}
use Rattle.jl_rows.proofs.read_row.any_row_at.Given as goal

-- what is left has the rows of all
abbrev pub invariant-fields : goal.invariant-fields
invariant-fields l = record {
  before : l.place ≤ l.end;
  after : l.at ≤ l.place;
  rest : rows (slice_range l.bytes l.at l.end) ≡ rows (slice_range l.bytes l.place l.end);
  ends : l.at + row_end (slice_range l.bytes l.at l.end) ≡ l.place + row_end (slice_range l.bytes l.place l.end);
}

abbrev pub decreases-fields : goal.decreases-fields
decreases-fields l = l.end - l.place
