use Rattle.std.proofs.Common.{◌≡◌, ◌+◌, ◌*◌, ◌-◌, ◌≤◌, slice_range}
use Rattle.jl_rows.specs.Reading as spec
use Rattle.jl_rows.specs.Seen.{parts_seen, HasParts}
use Rattle.jl_rows.proofs.read.+reader.Given as goal

abbrev pub decreases-content : goal.decreases-content
decreases-content l = 3 * l.depth

abbrev pub decreases-take : goal.decreases-take
decreases-take l = 3 * l.depth + 1

abbrev pub decreases-read : goal.decreases-read
decreases-read l = 3 * l.depth + 2

-- what is left says, behind the groups so far, what the whole message says
abbrev pub invariant-read-fields : goal.invariant-read-fields
invariant-read-fields l = record {
  before : l.place ≤ l.end;
  after : l.at ≤ l.place;
  parts : HasParts l.bytes l.found;
  rest : spec.read (spec.content_said l.depth) l.m (slice_range l.bytes l.at l.end) ≡ spec.read_on (spec.content_said l.depth) l.m (parts_seen l.bytes l.found) (slice_range l.bytes l.place l.end);
}

abbrev pub decreases-read-fields : goal.decreases-read-fields
decreases-read-fields l = l.end - l.place
