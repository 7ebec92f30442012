-- What holds of the runs of a field.
use Rattle.std.specs.Prelude.{◌≡◌, ℕ, ◌+◌, ◌≤◌, Ok}
use Rattle.jl_base.specs.Limits.{most_bytes}
use Rattle.jl_base.specs.Results.{◌>>=◌}
use Rattle.jl_rows.specs.History.{History}
use Rattle.jl_state.specs.Stands.{Stands}
use Rattle.jl_state.specs.States.{State}
use Rattle.jl_sym_laws.specs.Runs.{Leads}
use Rattle.jl_scan.specs.declared.file.File.{File}
use Rattle.jl_scan.specs.Costs.{through}
use Rattle.jl_scan.specs.Fields.{Field, IsField, before, frames_of, rows, after}
use Rattle.jl_scan.specs.Files.{IsFile, field_of}

-- an indexed and planned file is a field, from whatever run on
abbrev pub FilesAreFields : Type 0
FilesAreFields = (file : File) (lo : ℕ) → IsFile file → IsField (field_of file lo)

-- no runs do nothing
abbrev pub NoRuns : Type 0
NoRuns = (w : Field) (a : ℕ) (s : State) → after w a a s ≡ Ok s

-- runs do what the first ones do, and then the others, unless the first ones have a fault
abbrev pub RunsInTurn : Type 0
RunsInTurn = (w : Field) (a b c : ℕ) (s : State) → IsField w → a ≤ b → b ≤ c → after w a c s ≡ (after w a b s >>= λ t. after w b c t)

-- from a state that stands for a history, to what the decoder finds in the runs' rows after it
abbrev pub RunsLead : Type 0
RunsLead = (w : Field) (a b : ℕ) (H : History) (s : State) → Stands w.options s H → Leads w.options H (rows w a b) (after w a b s)

-- the frames of the first runs are those that stand before the next run
abbrev pub FramesAddUp : Type 0
FramesAddUp = (w : Field) (b : ℕ) → through (frames_of w) b + before w 0 ≡ before w b

-- and so they are never more than a file may have bytes
abbrev pub FramesAreFew : Type 0
FramesAreFew = (w : Field) (b : ℕ) → IsField w → through (frames_of w) b ≤ most_bytes
