-- Runs of frames, and waves of runs.
use Rattle.std.specs.Prelude.{◌≡◌, ℕ, ◌+◌, ◌-◌, ◌*◌, ◌/◌, ◌<◌, min, List, [], ◌∷◌, length, slice_get, take, Some}
use Rattle.jl_base.specs.declared.place.Run.{Run}
use Rattle.jl_frames.specs.Index.{Index, behind}

-- a run of n frames after the first k
abbrev pub run_behind : Index → ℕ → ℕ → Run
run_behind index k n = record { lo = behind index k; hi = behind index (k + n); first_frame = index.first + k; frames = n }

-- how many frames stand before run i, where a run has `per`
abbrev pub before_run : ℕ → ℕ → ℕ → ℕ
before_run count per i = min (i * per) count

-- run i has `per` frames after the first i·per, as far as there are frames
abbrev pub run_of : Index → ℕ → ℕ → Run
run_of index per i = run_behind index (before_run (length index.bodies) per i) (before_run (length index.bodies) per (i + 1) - before_run (length index.bodies) per i)

-- how many groups of `per` there are, the last one perhaps shorter
abbrev pub groups_of : ℕ → ℕ → ℕ
groups_of per count = (count + per - 1) / per

-- The runs of a plan with `per` frames in each.
pub record IsCut (index : Index) (per : ℕ) (runs : List Run) : Type 0 where
  pub count : length runs ≡ groups_of per (length index.bodies)
  pub each : (i : ℕ) → i < length runs → slice_get runs i ≡ Some (run_of index per i)

-- these runs cover the frames behind the first k up to the n-th in order, without a gap, and none is empty
abbrev pub Cover : Index → ℕ → List Run → ℕ → Type 0
Cover index k [] n = k ≡ n
Cover index k (run ∷ runs) n = (run ≡ run_behind index k run.frames) × (0 < run.frames) × Cover index (k + run.frames) runs n

-- how many runs are decoded before their output is written
abbrev pub runs_per_wave : ℕ
runs_per_wave = 64

-- wave w has the runs from 64·w to 64·(w + 1), as far as there are runs: its first, and the one behind its last
abbrev pub wave_of : List Run → ℕ → ℕ × ℕ
wave_of runs w = (min (w * runs_per_wave) (length runs), min ((w + 1) * runs_per_wave) (length runs))

-- how many frames some runs have, and how many the first i of them
abbrev pub frames_in : List Run → ℕ
frames_in [] = 0
frames_in (run ∷ runs) = run.frames + frames_in runs

abbrev pub frames_before : List Run → ℕ → ℕ
frames_before runs i = frames_in (take i runs)
