-- What the rows of a tape state, and what they do to the state before them.
use Rattle.std.specs.Prelude.{◌≡◌, ℕ, List, Option, Some, None, Result, Ok, Err}
use Rattle.jl_base.specs.Results.{Reading}
use Rattle.jl_base.specs.Terms.{Item}
use Rattle.jl_base.specs.declared.place.Fault.{Fault}
use Rattle.jl_rows.specs.Seen.{options_seen}
use Rattle.jl_state.specs.Lawful.{state_seen, IsLawful}
use Rattle.jl_state.specs.Running.{run_on, after_reading}
use Rattle.jl_state.specs.States as states
use Rattle.jl_state.specs.declared.state.State.{State}
use Rattle.jl_tape.specs.Tapes.{reading_of}
use Rattle.jl_tape.specs.declared.tape.PlacedRow.{PlacedRow}

-- the items of the rows after a state, up to the first fault
abbrev pub stated : List ℕ → State → List PlacedRow → Option Fault → Reading Item Fault
stated bytes s tape fault = run_on (options_seen bytes s.options) (state_seen bytes s) (reading_of bytes tape fault)

-- the state after the rows, or their first fault
abbrev pub stepped : List ℕ → State → List PlacedRow → Option Fault → Result states.State Fault
stepped bytes s tape fault = after_reading (options_seen bytes s.options) (state_seen bytes s) (reading_of bytes tape fault)

-- the rows have no fault, and lead from the state s to the state t, which keeps what a state keeps; or this is their first
-- fault
abbrev pub Ends : List ℕ → State → State → List PlacedRow → Option Fault → Option Fault → Type 0
Ends bytes s t tape fault None = (stepped bytes s tape fault ≡ Ok (state_seen bytes t)) × IsLawful bytes t × (t.options ≡ s.options)
Ends bytes s t tape fault (Some f) = stepped bytes s tape fault ≡ Err f
