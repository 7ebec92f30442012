use Rattle.std.proofs.Common.{◌≡◌, ◌+◌, ◌-◌, ◌≤◌, slice_range}
use Rattle.jl_wire.specs.Fields.{fields}
use Rattle.jl_survey.specs.Surveys.{metadata_among}
use Rattle.jl_survey.proofs.metadata.metadata_between.Given as goal

-- what was found, and what is left to find, are all there is
abbrev pub invariant-by_field : goal.invariant-by_field
invariant-by_field l = record {
  start : l.at ≤ l.place;
  inside : l.place ≤ l.end;
  few : l.found ≤ l.place - l.at;
  rest : metadata_among (fields (slice_range l.bytes l.at l.end)).items ≡ l.found + metadata_among (fields (slice_range l.bytes l.place l.end)).items;
}

abbrev pub decreases-by_field : goal.decreases-by_field
decreases-by_field l = l.end - l.place
