-- The rows of runs, and of the frames that they cover.
use Rattle.std.specs.Prelude.{◌≡◌, ℕ, ◌+◌, ◌-◌, ◌≤◌, List, [], ◌∷◌, length, map, slice_get, slice_range, Some, None}
use Rattle.jl_base.specs.Results.{Reading, joined}
use Rattle.jl_base.specs.Spans.{text_of}
use Rattle.jl_base.specs.declared.place.Fault.{Fault}
use Rattle.jl_base.specs.declared.place.Run.{Run}
use Rattle.jl_rows.specs.Files.{Placed, all_rows, rows_then}
use Rattle.jl_frames.specs.Stretches.{between}
use Rattle.jl_frames.specs.Index.{Index, IsIndex, behind}
use Rattle.jl_frames.specs.Runs.{Cover}

abbrev pub no_rows : Reading Placed Fault
no_rows = record { items = []; fault = None }

-- how many of an index's frames stand before a run, and how many up to its end
abbrev pub run_begin : Index → Run → ℕ
run_begin index run = run.first_frame - index.first

abbrev pub run_end : Index → Run → ℕ
run_end index run = run_begin index run + run.frames

-- A run of frames of the index.
pub record IsRunIn (index : Index) (run : Run) : Type 0 where
  pub begin : index.first ≤ run.first_frame
  pub end : run_end index run ≤ length index.bodies

-- the rows of a run's frames, up to their first fault
abbrev pub run_rows : List ℕ → Index → Run → Reading Placed Fault
run_rows bytes index run = between bytes index (run_begin index run) (run_end index run) no_rows

-- the rows of some runs, one run after another, and then what follows
abbrev pub runs_then : List ℕ → Index → List Run → Reading Placed Fault → Reading Placed Fault
runs_then bytes index [] B = B
runs_then bytes index (run ∷ runs) B = joined (run_rows bytes index run) (runs_then bytes index runs B)

-- A run of frames of the index, from where the first one's length stands to where the last one ends.
pub record IsLaidIn (index : Index) (run : Run) : Type 0 where
  pub within : IsRunIn index run
  pub lo : run.lo ≡ behind index (run_begin index run)
  pub hi : run.hi ≡ behind index (run_end index run)

-- Each run of a plan that covers an index is one.
abbrev pub PlannedRuns : Type 0
PlannedRuns = (index : Index) (runs : List Run) (i : ℕ) (run : Run) → Cover index 0 runs (length index.bodies) → slice_get runs i ≡ Some run → IsLaidIn index run

-- A run's rows come first among those of the frames from its first one on.
abbrev pub RunThen : Type 0
RunThen = (bytes : List ℕ) (index : Index) (run : Run) (end : ℕ) (B : Reading Placed Fault) → run_end index run ≤ end → end ≤ length index.bodies
    → between bytes index (run_begin index run) end B ≡ joined (run_rows bytes index run) (between bytes index (run_end index run) end B)

-- Runs that cover some frames have these frames' rows.
abbrev pub RunsCover : Type 0
RunsCover = (bytes : List ℕ) (index : Index) (k : ℕ) (runs : List Run) (end : ℕ) (B : Reading Placed Fault) → Cover index k runs end → end ≤ length index.bodies
    → between bytes index k end B ≡ runs_then bytes index runs B

-- All frames of a file's index, and the fault after them, have the file's rows.
abbrev pub FramesAreFile : Type 0
FramesAreFile = (file : List ℕ) (index : Index) → IsIndex file index → between file index 0 (length index.bodies) (record { items = []; fault = index.tail }) ≡ all_rows file
