-- A decoder runs its steps over the rows.
use Rattle.std.specs.Prelude.{◌≡◌, List, [], ◌∷◌, Option, Some, None, Result, Ok, Err}
use Rattle.jl_base.specs.Results.{◌>>=◌, Reading, followed}
use Rattle.jl_base.specs.Terms.{Item}
use Rattle.jl_base.specs.declared.kind.Kind.{Kind}
use Rattle.jl_base.specs.declared.place.Place.{Place}
use Rattle.jl_base.specs.declared.place.Fault.{Fault}
use Rattle.jl_rows.specs.Written.{StreamOptions}
use Rattle.jl_rows.specs.Files.{Placed}
use Rattle.jl_rows.specs.History.{History}
use Rattle.jl_rows.specs.Decoder.{decoded_on}
use Rattle.jl_state.specs.States.{State}
use Rattle.jl_state.specs.Steps.{Stepped, step}
use Rattle.jl_state.specs.Stands.{Stands}

-- what a step states, and then what follows from the state behind it; a fault is at the row's place
abbrev pub stepped : Place → Stepped → (State → Reading Item Fault) → Reading Item Fault
stepped place (Ok next) rest = followed next.1 None (rest next.0)
stepped place (Err kind) rest = record { items = []; fault = Some (record { place = place; kind = kind }) }

-- from a state over the rows, up to the first fault of a row, or else the fault that ends them
unfoldable pub run : StreamOptions → State → List Placed → Option Fault → Reading Item Fault
run o s [] fault = record { items = []; fault = fault }
run o s (r ∷ rs) fault = stepped r.place (step o r.row s) (λ t. run o t rs fault)

abbrev pub run_on : StreamOptions → State → Reading Placed Fault → Reading Item Fault
run_on o s R = run o s R.items R.fault

-- a fault, or else the answer
abbrev pub settled : {A : Type 0} → Option Fault → A → Result A Fault
settled None x = Ok x
settled (Some fault) x = Err fault

-- an answer, or the fault at a place
abbrev pub at_place : {A : Type 0} → Place → Result A Kind → Result A Fault
at_place place (Ok x) = Ok x
at_place place (Err kind) = Err (record { place = place; kind = kind })

-- the state after a step, where what it states is left aside
abbrev pub state_of : Stepped → Result State Kind
state_of (Ok next) = Ok next.0
state_of (Err kind) = Err kind

-- the state after rows, one decoder's steps after another, or their first fault
unfoldable pub after_rows : StreamOptions → State → List Placed → Option Fault → Result State Fault
after_rows o s [] fault = settled fault s
after_rows o s (r ∷ rs) fault = at_place r.place (state_of (step o r.row s)) >>= λ t. after_rows o t rs fault

abbrev pub after_reading : StreamOptions → State → Reading Placed Fault → Result State Fault
after_reading o s R = after_rows o s R.items R.fault

-- From a state that stands for a history, a run gives what the decoder gives after that history.
abbrev pub RunsDecode : Type 0
RunsDecode = (o : StreamOptions) (s : State) (H : History) (R : Reading Placed Fault) → Stands o s H → run_on o s R ≡ decoded_on o H R
