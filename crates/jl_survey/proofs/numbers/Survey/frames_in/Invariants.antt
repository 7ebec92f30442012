use Rattle.std.proofs.Common.{◌≡◌, ◌-◌, ◌*◌, ◌++◌, ℕ, List, length, map, slice_range, take}
use Rattle.jl_base.specs.Results.{Reading}
use Rattle.jl_base.specs.Spans.{text_of}
use Rattle.jl_base.specs.declared.place.Fault.{Fault}
use Rattle.jl_rows.specs.Files.{Placed, rows_then}
use Rattle.jl_frames.specs.Index.{last_end}
use Rattle.jl_frames.specs.Stretches.{between}
use Rattle.jl_survey.specs.Counting.{Grew, IsOver, KeepsOptions, outlook, survey_seen}
use Rattle.jl_survey.proofs.numbers.Survey.frames_in.Given as goal

-- with the frames that are left, the survey comes to the same
abbrev pub invariant-loop-i : goal.invariant-loop-i
invariant-loop-i l = record {
  rest : (kept : List ℕ) (size : ℕ) (bodies : List (List ℕ)) (B : Reading Placed Fault) → IsOver l.bytes kept l.fn.self
      → outlook (survey_seen kept l.fn.self) size (map (text_of l.bytes) l.frames.bodies ++ bodies) (rows_then l.frames.first (map (text_of l.bytes) l.frames.bodies) B)
      ≡ outlook (survey_seen kept l.self) size (map (text_of l.bytes) (slice_range l.frames.bodies l.i (length l.frames.bodies)) ++ bodies) (between l.bytes l.frames l.i (length l.frames.bodies) B);
  options : KeepsOptions l.bytes l.fn.self l.self;
  few : Grew (2 * (last_end l.frames.lo (take l.i l.frames.bodies) - l.frames.lo)) l.fn.self l.self;
  bytes : l.self.bytes ≡ l.fn.self.bytes;
}
