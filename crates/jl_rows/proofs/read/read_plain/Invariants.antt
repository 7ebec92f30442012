use Rattle.std.proofs.Common.{◌≡◌, ◌-◌, ◌≤◌, slice_range}
use Rattle.jl_rows.specs.Reading as spec
use Rattle.jl_rows.specs.Seen.{parts_seen, HasParts}
use Rattle.jl_rows.proofs.read.read_plain.Given as goal

-- what is left says, behind the groups so far, what the whole message says
abbrev pub invariant-fields : goal.invariant-fields
invariant-fields l = record {
  before : l.place ≤ l.end;
  after : l.at ≤ l.place;
  parts : HasParts l.bytes l.found;
  rest : spec.read spec.plain l.m (slice_range l.bytes l.at l.end) ≡ spec.read_on spec.plain l.m (parts_seen l.bytes l.found) (slice_range l.bytes l.place l.end);
}

abbrev pub decreases-fields : goal.decreases-fields
decreases-fields l = l.end - l.place
