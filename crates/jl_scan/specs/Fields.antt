-- What a scan is of: some runs of a file. What their rows do to a state, and what sums them.
use Rattle.std.specs.Prelude.{◌≡◌, ◌==◌, ◌&&◌, Bool, ℕ, ◌+◌, ◌-◌, ◌*◌, ◌≤◌, false, List, [], length, Option, None, Result}
use Rattle.jl_base.specs.Limits.{most_bytes}
use Rattle.jl_base.specs.Results.{Reading}
use Rattle.jl_base.specs.declared.place.Fault.{Fault}
use Rattle.jl_base.specs.declared.place.Run.{Run}
use Rattle.jl_rows.specs.Files.{Placed}
use Rattle.jl_rows.specs.Seen.{options_seen}
use Rattle.jl_rows.specs.Written.{StreamOptions}
use Rattle.jl_frames.specs.Index.{Index, AreLaid, behind}
use Rattle.jl_frames.specs.Runs.{Cover, frames_before}
use Rattle.jl_frames.specs.Stretches.{between}
use Rattle.jl_state.specs.Lawful.{state_seen, IsLawful}
use Rattle.jl_state.specs.Running.{after_reading}
use Rattle.jl_state.specs.States.{State}
use Rattle.jl_state.specs.declared.state.State as code
use Rattle.jl_sym.specs.declared.summary.Summary.{Summary}
use Rattle.jl_sym_laws.specs.Staying.{IsSettled}
use Rattle.jl_tape.specs.Runs.{no_rows}
use Rattle.jl_tape.specs.Tapes.{HasRows, reading_of}
use Rattle.jl_tape.specs.declared.tape.PlacedRow.{PlacedRow}
use Rattle.jl_compose.specs.Blocks.{all_rows, seen_all, AreLawful, IsBounded}
use Rattle.jl_compose.specs.Laws.{SumsSettled}

-- A file's bytes, the options of its first row, its frames and their runs, of which the first `lo` are left aside: run a
-- of the field is run lo + a of the file.
pub record Field : Type 0 where
  pub bytes : List ℕ
  pub options : StreamOptions
  pub index : Index
  pub runs : List Run
  pub lo : ℕ

abbrev pub no_field : Field
no_field = record {
  bytes = [];
  options = record { stream_name = []; physical = 1; generalized = false; star = false; names = 0; prefixes = 0; datatypes = 0; logical = 0; version = 1; strict = false };
  index = record { bodies = []; tail = None; lo = 0; first = 1 };
  runs = [];
  lo = 0;
}

-- The frames lie one after another in the bytes, which aren't too many, and the runs cover them.
pub record IsField (w : Field) : Type 0 where
  pub cover : Cover w.index 0 w.runs (length w.index.bodies)
  pub laid : (last : ℕ) × AreLaid w.index.lo w.index.bodies last × (last ≤ length w.bytes)
  pub short : length w.bytes ≤ most_bytes

-- how many of the file's frames stand before run a, and where the last of them ends
abbrev pub before : Field → ℕ → ℕ
before w a = frames_before w.runs (w.lo + a)

abbrev pub place : Field → ℕ → ℕ
place w a = behind w.index (before w a)

-- the frames of a run
abbrev pub frames_of : Field → ℕ → ℕ
frames_of w r = before w (r + 1) - before w r

-- the rows of the runs from a to b, and what the decoder's steps over these make of a state
abbrev pub rows : Field → ℕ → ℕ → Reading Placed Fault
rows w a b = between w.bytes w.index (before w a) (before w b) no_rows

abbrev pub after : Field → ℕ → ℕ → State → Result State Fault
after w a b s = after_reading w.options s (rows w a b)

-- Some summaries, one after another, do on every settled state what the decoder's steps over the runs from a to b do.
-- They are lawful, within the bound of a block, and have at most as many rows as the runs have pairs of bytes.
pub record Sums (w : Field) (a b : ℕ) (ms : List Summary) : Type 0 where
  pub order : a ≤ b
  pub within : w.lo + b ≤ length w.runs
  pub acts : SumsSettled w.options (rows w a b) (seen_all w.bytes ms)
  pub lawful : AreLawful w.options w.bytes ms
  pub bounded : IsBounded w.options ms
  pub few : place w a + 2 * all_rows ms ≤ place w b

-- A tape holds the rows of run a, up to the fault that ends them if there is one, and these take two bytes each at least.
pub record HoldsRun (w : Field) (a : ℕ) (tape : List PlacedRow) (fault : Option Fault) : Type 0 where
  pub has : HasRows w.bytes tape
  pub reads : reading_of w.bytes tape fault ≡ rows w a (a + 1)
  pub few : place w a + 2 * length tape ≤ place w (a + 1)

-- the state that the code's state stands for
abbrev pub seen : Field → code.State → State
seen w s = state_seen w.bytes s

-- A state of the file.
pub record IsStateOf (w : Field) (s : code.State) : Type 0 where
  pub lawful : IsLawful w.bytes s
  pub options : options_seen w.bytes s.options ≡ w.options
  pub settled : IsSettled w.options (seen w s)

-- whether a value is of the runs from a to b
abbrev pub is_of : ℕ → ℕ → ℕ × ℕ → Bool
is_of a b p = (p.0 == a) && (p.1 == b)
