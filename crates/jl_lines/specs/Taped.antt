-- How a decoding takes rows that were read before.
use Rattle.std.specs.Prelude.{◌≡◌, ℕ, List, drop, Option, Result, Ok, Err}
use Rattle.jl_base.specs.Results.{Reading}
use Rattle.jl_base.specs.declared.place.Fault.{Fault}
use Rattle.jl_base.specs.declared.place.Place.{Place}
use Rattle.jl_rows.specs.Files.{Placed}
use Rattle.jl_state.specs.declared.stop.Stop.{Stop}
use Rattle.jl_state.specs.declared.stop.Stop.TheVariants as stops
use Rattle.jl_tape.specs.declared.tape.PlacedRow.{PlacedRow}
use Rattle.jl_tape.specs.Tapes.{reading_of}
use Rattle.jl_lines.specs.declared.decoding.Decoding.{Decoding}
use Rattle.jl_lines.specs.declared.decoding.Refused.{Refused}
use Rattle.jl_lines.specs.declared.decoding.Refused.TheVariants as refused
use Rattle.jl_lines.specs.Going.{Outcome, Halts}

-- What a decoding comes to is what it comes to after the rows that were taken; or it went no further.
abbrev pub Leads : Outcome → Outcome → Decoding → Result (Unit {0}) Refused → Type 0
Leads said rest d (Ok _) = said ≡ rest
Leads said rest d (Err why) = Halts said d why

-- why no further row is taken, where the row at this place stops so
abbrev pub refusal : Place → Stop → Refused
refusal place (stops.Fault kind) = refused.Malformed (record { place = place; kind = kind })
refusal place stops.NoMemory = refused.NoMemory

-- the same of one row at its place
abbrev pub LeadsAt : Place → Outcome → Outcome → Decoding → Result (Unit {0}) Stop → Type 0
LeadsAt place said rest d (Ok _) = said ≡ rest
LeadsAt place said rest d (Err stop) = Halts said d (refusal place stop)

-- the rows after the first i of a tape, up to the fault that ends them
abbrev pub left_on : List ℕ → List PlacedRow → ℕ → Option Fault → Reading Placed Fault
left_on bytes tape i fault = reading_of bytes (drop i tape) fault
