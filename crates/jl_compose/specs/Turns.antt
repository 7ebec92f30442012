-- What it is to be two summaries in one.
use Rattle.std.specs.Prelude.{◌≡◌, ℕ, ◌≤◌, List, Result, Ok}
use Rattle.jl_base.specs.Results.{◌>>=◌}
use Rattle.jl_base.specs.declared.place.Fault.{Fault}
use Rattle.jl_rows.specs.declared.row.Table.{Table}
use Rattle.jl_rows.specs.Written.{StreamOptions}
use Rattle.jl_rows.specs.Decoder.{size_of, most_entries}
use Rattle.jl_state.specs.States.{State}
use Rattle.jl_sym_laws.specs.Acting.{act}
use Rattle.jl_sym_laws.specs.Staying.{IsSettled}
use Rattle.jl_sym.specs.declared.summary.Summary.{Summary}
use Rattle.jl_sym.specs.Lawful.{IsLawful}
use Rattle.jl_sym.specs.Seen.{summary_seen}

-- what is done to a state: what one summary does, or several, one after another
abbrev pub Change : Type 0
Change = State → Result State Fault

-- On every settled state the third does what the first does, and then the second.
abbrev pub ActsInTurn : StreamOptions → Change → Change → Change → Type 0
ActsInTurn o f g h = (s : State) → IsSettled o s → h s ≡ f s >>= λ t. g t

-- on every settled state both do the same
abbrev pub ActsAlike : StreamOptions → Change → Change → Type 0
ActsAlike o f g = (s : State) → IsSettled o s → f s ≡ g s

-- from a settled state to a settled one, where there is no fault
abbrev pub KeepsSettled : StreamOptions → Change → Type 0
KeepsSettled o f = (s t : State) → IsSettled o s → f s ≡ Ok t → IsSettled o t

abbrev pub seen_act : List ℕ → Summary → Change
seen_act bytes m = act (summary_seen bytes m)

-- options of a file that the checks of the first row let pass
abbrev pub HasTables : StreamOptions → Type 0
HasTables o = (t : Table) → size_of o t ≤ most_entries

-- The third summary acts as the first two in turn, under whatever options these are lawful,
abbrev pub Turns : List ℕ → Summary → Summary → Summary → Type 0
Turns bytes a b c = (o : StreamOptions) → HasTables o → IsLawful o bytes a → IsLawful o bytes b → ActsInTurn o (seen_act bytes a) (seen_act bytes b) (seen_act bytes c)

-- and is lawful under these too.
abbrev pub StaysLawful : List ℕ → Summary → Summary → Summary → Type 0
StaysLawful bytes a b c = (o : StreamOptions) → HasTables o → IsLawful o bytes a → IsLawful o bytes b → IsLawful o bytes c
