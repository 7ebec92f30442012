use Rattle.std.proofs.Common.{◌≡◌, ◌*◌, ◌-◌, ◌≤◌, ℕ, List, slice_range}
use Rattle.jl_base.specs.Results.{Reading, joined}
use Rattle.jl_base.specs.declared.place.Fault.{Fault}
use Rattle.jl_rows.specs.Files.{Placed, placed_on, rows}
use Rattle.jl_survey.specs.Counting.{Grew, IsOver, KeepsOptions, outlook, survey_seen}
use Rattle.jl_survey.proofs.numbers.Survey.rows.Given as goal

-- with what is left, the survey comes to the same; a row takes two bytes at least
abbrev pub invariant-by_row : goal.invariant-by_row
invariant-by_row l = record {
  start : l.start ≤ l.at;
  inside : l.at ≤ l.end;
  counted : 2 * l.before ≤ l.at - l.start;
  rest : (kept : List ℕ) (size : ℕ) (bodies : List (List ℕ)) (B : Reading Placed Fault) → IsOver l.bytes kept l.fn.self
      → outlook (survey_seen kept l.fn.self) size bodies (joined (placed_on l.number 0 (rows (slice_range l.bytes l.start l.end))) B)
      ≡ outlook (survey_seen kept l.self) size bodies (joined (placed_on l.number l.before (rows (slice_range l.bytes l.at l.end))) B);
  options : KeepsOptions l.bytes l.fn.self l.self;
  few : Grew (l.at - l.start) l.fn.self l.self;
  bytes : l.self.bytes ≡ l.fn.self.bytes;
}

abbrev pub decreases-by_row : goal.decreases-by_row
decreases-by_row l = l.end - l.at
