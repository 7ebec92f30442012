-- What is counted of a file.
use Rattle.std.specs.Prelude.{◌≡◌, ℕ, Some, None, Result, Ok, Err}
use Rattle.jl_base.specs.Terms.{Item}
use Rattle.jl_base.specs.Results.{Reading}
use Rattle.jl_base.specs.declared.place.Fault.{Fault}
use Rattle.jl_lines.specs.Counts.{namespaces, statements}
use Rattle.jl_lines.specs.declared.decoding.Counts.{Counts}
use Rattle.jl_lines.specs.declared.decoding.Refused.{Refused}
use Rattle.jl_lines.specs.declared.decoding.Refused.TheVariants as refused
use Rattle.jl_decode.specs.declared.file.Tally.{Tally}

-- those of a tally
abbrev pub counts_of : Tally → Counts
counts_of tally = record { statements = tally.statements; namespaces = tally.namespaces }

-- The counts of what a file states, with the number of frames; or its first fault. Want of memory is free.
abbrev pub Tallies : ℕ → Reading Item Fault → Result Tally Refused → Type 0
Tallies count said (Ok tally) = (said.fault ≡ None) × (tally ≡ record { frames = count; statements = statements said.items; namespaces = namespaces said.items })
Tallies count said (Err (refused.Malformed fault)) = said.fault ≡ Some fault
Tallies count said (Err refused.NoMemory) = Unit {0}
