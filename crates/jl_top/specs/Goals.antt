-- What a job is to write, and how it is to end, by the bytes of its files.
use Rattle.std.specs.Prelude.{ℕ, Bool, List, [], ◌∷◌, length, Option, Some, None, Result, Ok, Err}
use Rattle.jl_base.specs.Results.{Reading}
use Rattle.jl_base.specs.Terms.{Item}
use Rattle.jl_base.specs.declared.place.Fault.{Fault}
use Rattle.jl_rows.specs.Decoder.{decode}
use Rattle.jl_rows.specs.Files.{frames}
use Rattle.jl_text.specs.Line.{text}
use Rattle.jl_lines.specs.Counts.{statements, namespaces}
use Rattle.jl_survey.specs.Reports.{inspect_report, valid_report}
use Rattle.jl_survey.specs.Surveys.{Surveyed, survey}
use Rattle.jl_words.specs.declared.command.Command.{Command}
use Rattle.jl_words.specs.declared.command.Command.TheVariants.{Nquads, Validate, Inspect}
use Rattle.jl_words.specs.declared.command.Job.{Job}

-- Malformed has the number of a file, counted from 1, and the file's first fault.
pub data Ending : Type 0 where
  Done : Ending
  Malformed : ℕ → Fault → Ending

-- The parts of the output are never none; an output in one piece is one part.
pub record Goal : Type 0 where
  pub parts : List (List ℕ)
  pub ending : Ending

-- with the first fault of the file of this number, where it has one
abbrev pub ending_at : ℕ → Option Fault → Ending
ending_at file None = Done
ending_at file (Some fault) = Malformed file fault

-- the lines of all that a file states, up to its first fault
abbrev pub lines_of : Reading Item Fault → Goal
lines_of said = record { parts = text said.items ∷ []; ending = ending_at 1 said.fault }

-- a report, and nothing else
abbrev pub reported : List ℕ → Goal
reported report = record { parts = report ∷ []; ending = Done }

-- no report, for a fault of the first file
abbrev pub unreported : Fault → Goal
unreported fault = record { parts = [] ∷ []; ending = Malformed 1 fault }

-- the report of a file without a fault
abbrev pub report_of : List ℕ → List Item → Option Fault → Goal
report_of file items None = reported (valid_report (length (frames file).items) (statements items) (namespaces items))
report_of file items (Some fault) = unreported fault

abbrev pub validated : List ℕ → Reading Item Fault → Goal
validated file said = report_of file said.items said.fault

-- the report of what was surveyed
abbrev pub inspected : Result Surveyed Fault → Goal
inspected (Ok numbers) = reported (inspect_report numbers)
inspected (Err fault) = unreported fault

-- the bytes of the first file
abbrev pub first : List (List ℕ) → List ℕ
first [] = []
first (file ∷ files) = file

-- what a command writes of these files, under the strict profile or not; rows that are read alone aren't held to it
abbrev pub goal_of : Bool → Command → List (List ℕ) → Goal
goal_of strict Nquads files = lines_of (decode strict (first files))
goal_of strict Validate files = validated (first files) (decode strict (first files))
goal_of strict Inspect files = inspected (survey (first files))

abbrev pub goal : Job → List (List ℕ) → Goal
goal job files = goal_of job.strict job.command files
