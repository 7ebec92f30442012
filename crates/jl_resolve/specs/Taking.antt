-- Rows, resolved from a state into owned items.
use Rattle.std.specs.Prelude.{◌≡◌, ℕ, List, ◌++◌, drop, Option, Some, None, Result, Ok, Err}
use Rattle.jl_base.specs.Items.{items_of}
use Rattle.jl_base.specs.Results.{Reading}
use Rattle.jl_base.specs.Terms.{Item}
use Rattle.jl_base.specs.declared.place.Fault.{Fault}
use Rattle.jl_base.specs.declared.term.Item as owned
use Rattle.jl_rows.specs.Files.{Placed}
use Rattle.jl_rows.specs.Seen.{options_seen, row_seen}
use Rattle.jl_state.specs.Lawful.{state_seen}
use Rattle.jl_state.specs.Steps.{Stepped, step}
use Rattle.jl_state.specs.declared.state.State.{State}
use Rattle.jl_state.specs.declared.stop.Stop.{Stop}
use Rattle.jl_state.specs.declared.stop.Stop.TheVariants as stops
use Rattle.jl_tape.specs.declared.tape.PlacedRow.{PlacedRow}
use Rattle.jl_tape.specs.Tapes.{reading_of}

-- items, and perhaps the fault that ended them
abbrev pub said : List owned.Item → Option Fault → Reading Item Fault
said items fault = record { items = items_of items; fault = fault }

-- A row's step, with its items after the others; or its fault, and the items as they were. Want of memory is free.
abbrev pub TakesRow : List ℕ → Stepped → State → List owned.Item → List owned.Item → Result (Unit {0}) Stop → Type 0
TakesRow bytes stepped after old new (Ok _) = (items : List Item) × (stepped ≡ Ok (state_seen bytes after, items)) × (items_of new ≡ items_of old ++ items)
TakesRow bytes stepped after old new (Err (stops.Fault kind)) = (stepped ≡ Err kind) × (new ≡ old)
TakesRow bytes stepped after old new (Err stops.NoMemory) = Unit {0}

-- One row at its place, from a state: it is taken, or has this fault.
abbrev pub TakesPlaced : List ℕ → PlacedRow → State → State → List owned.Item → List owned.Item → Option Fault → Type 0
TakesPlaced bytes p before after old new None = TakesRow bytes (step (options_seen bytes before.options) (row_seen bytes p.row) (state_seen bytes before)) after old new (Ok tt)
TakesPlaced bytes p before after old new (Some fault) = (step (options_seen bytes before.options) (row_seen bytes p.row) (state_seen bytes before) ≡ Err fault.kind) × (new ≡ old) × (fault.place ≡ p.place)

-- the rows after the first i of a tape, up to the fault that ends them
abbrev pub left_on : List ℕ → List PlacedRow → ℕ → Option Fault → Reading Placed Fault
left_on bytes tape i fault = reading_of bytes (drop i tape) fault
