use Rattle.std.proofs.Common.{◌≡◌, ◌-◌, ◌≤◌, slice_range, None}
use Rattle.std.specs.Option.{option_map}
use Rattle.jl_rows.specs.Rows as spec
use Rattle.jl_rows.specs.Seen.{row_seen, HasMaybeRow}
use Rattle.jl_rows.proofs.read_row.row_among.Given as goal

-- what is left makes, behind the row so far, what the whole message makes
abbrev pub invariant-fields : goal.invariant-fields
invariant-fields l = record {
  before : l.place ≤ l.end;
  after : l.at ≤ l.place;
  row : HasMaybeRow l.bytes l.found;
  rest : spec.row_on None (slice_range l.bytes l.at l.end) ≡ spec.row_on (option_map (row_seen l.bytes) l.found) (slice_range l.bytes l.place l.end);
}

abbrev pub decreases-fields : goal.decreases-fields
decreases-fields l = l.end - l.place
