-- What a step of the code answers, against what the definition says. Want of memory is free.
use Rattle.std.specs.Prelude.{◌≡◌, ℕ, Bool, true, List, Result, Ok, Err}
use Rattle.jl_base.specs.declared.kind.Kind.{Kind}
use Rattle.jl_state.specs.declared.known.Known.{Known}
use Rattle.jl_state.specs.declared.tables.LastIds.{LastIds}
use Rattle.jl_state.specs.declared.stop.Stop.{Stop}
use Rattle.jl_state.specs.declared.stop.Stop.TheVariants.{Fault, NoMemory}
use Rattle.jl_state.specs.Steps.{Looked}
use Rattle.jl_state.specs.KnownTerms.{known_value}
use Rattle.jl_state.specs.Seen.{ids_seen}

-- a fault is the definition's
abbrev pub Stops : {A : Type 0} → Result A Kind → Stop → Type 0
Stops said (Fault kind) = said ≡ Err kind
Stops said NoMemory = Unit {0}

-- a term is the definition's, with the last ids behind it
abbrev pub Looks : List ℕ → Looked → LastIds → Result Known Stop → Type 0
Looks bytes said last (Ok k) = said ≡ Ok (known_value bytes k, ids_seen last)
Looks bytes said last (Err stop) = Stops said stop

-- memory is wanted only where this is so
abbrev pub WantsFor : Bool → Stop → Type 0
WantsFor is (Fault kind) = Unit {0}
WantsFor is NoMemory = is ≡ true
