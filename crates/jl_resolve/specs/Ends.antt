-- What is resolved of a run, and how it ends.
use Rattle.std.specs.Prelude.{◌≡◌, ℕ, List, Option, Some, None, Ok, Err}
use Rattle.jl_base.specs.Results.{Reading}
use Rattle.jl_base.specs.Terms.{Item}
use Rattle.jl_base.specs.declared.place.Fault.{Fault}
use Rattle.jl_rows.specs.Files.{Placed}
use Rattle.jl_rows.specs.Seen.{options_seen}
use Rattle.jl_state.specs.Lawful.{state_seen, IsLawful}
use Rattle.jl_state.specs.Running.{after_reading}
use Rattle.jl_state.specs.declared.state.State.{State}
use Rattle.jl_resolve.specs.declared.resolving.End.{End}
use Rattle.jl_resolve.specs.declared.resolving.End.TheVariants as ends
use Rattle.jl_resolve.specs.declared.resolving.Resolved.{Resolved}
use Rattle.jl_resolve.specs.Taking.{said}

abbrev pub fault_of : End → Option Fault
fault_of (ends.After state) = None
fault_of (ends.Faulted fault) = Some fault

-- the items, and perhaps the fault that ended them
abbrev pub said_of : Resolved → Reading Item Fault
said_of r = said r.items (fault_of r.end)

-- The state after rows from a state, or their fault.
abbrev pub EndsAfter : List ℕ → State → Reading Placed Fault → End → Type 0
EndsAfter bytes s R (ends.After t) = (after_reading (options_seen bytes s.options) (state_seen bytes s) R ≡ Ok (state_seen bytes t)) × IsLawful bytes t × (t.options ≡ s.options)
EndsAfter bytes s R (ends.Faulted fault) = after_reading (options_seen bytes s.options) (state_seen bytes s) R ≡ Err fault
