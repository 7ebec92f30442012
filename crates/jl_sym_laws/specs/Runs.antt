-- The summary of a run of rows, and what it is to be one.
use Rattle.std.specs.Prelude.{◌≡◌, List, [], ◌∷◌, Option, Some, None, Result, Ok, Err}
use Rattle.jl_base.specs.Results.{Reading}
use Rattle.jl_base.specs.declared.place.Fault.{Fault}
use Rattle.jl_rows.specs.Written.{StreamOptions}
use Rattle.jl_rows.specs.Files.{Placed}
use Rattle.jl_rows.specs.History.{History}
use Rattle.jl_rows.specs.Decoder.{decoded_on}
use Rattle.jl_state.specs.States.{State}
use Rattle.jl_state.specs.Running.{after_reading}
use Rattle.jl_state.specs.Stands.{Stands}
use Rattle.jl_sym_laws.specs.Summaries.{Need, Summary, unit}
use Rattle.jl_sym_laws.specs.Acting.{act}
use Rattle.jl_sym_laws.specs.Composing.{composed}
use Rattle.jl_sym_laws.specs.SmallSteps.{smalls, of_smalls}

-- a history, and rows after it
unfoldable pub history_after : List Placed → History → History
history_after [] H = H
history_after (r ∷ rs) H = history_after rs (r.row ∷ H)

-- a row's summary, one more row after a summary, and the fault that ends a reading
abbrev pub of_row : StreamOptions → Placed → Summary
of_row o r = of_smalls r.place (smalls o r.row)

unfoldable pub extended : StreamOptions → Summary → List Placed → Summary
extended o m [] = m
extended o m (r ∷ rs) = extended o (composed m (of_row o r)) rs

abbrev pub never : Fault → Summary
never fault = record unit { demands = record { moment = 0; fault = fault; need = Need.Never } ∷ [] }

abbrev pub ended : Summary → Option Fault → Summary
ended m None = m
ended m (Some fault) = composed m (never fault)

-- the summary of a reading: row by row, and then the fault that ends it
abbrev pub of_reading : StreamOptions → Reading Placed Fault → Summary
of_reading o R = ended (extended o unit R.items) R.fault

-- An answer against the definitions of the decoder: the first fault of the rows after the history, or no fault and a
-- state that stands for the history with the rows.
abbrev pub Leads : StreamOptions → History → Reading Placed Fault → Result State Fault → Type 0
Leads o H R (Ok t) = ((decoded_on o H R).fault ≡ None) × Stands o t (history_after R.items H)
Leads o H R (Err fault) = (decoded_on o H R).fault ≡ Some fault

-- A summary summarises a reading: from each state that stands for a history it leads to what the decoder finds.
abbrev pub Summarises : StreamOptions → Reading Placed Fault → Summary → Type 0
Summarises o R m = (H : History) (s : State) → Stands o s H → Leads o H R (act m s)

-- on whatever state, it does what the decoder's steps do
abbrev pub Sums : StreamOptions → Reading Placed Fault → Summary → Type 0
Sums o R m = (s : State) → act m s ≡ after_reading o s R
