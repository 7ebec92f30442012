-- What demands are made, and what steps a summary is extended by.
use Rattle.std.specs.Prelude.{◌≡◌, ℕ, ◌+◌, List, [], ◌∷◌, ◌++◌, map, Option, Some, None, Result, Ok, Err}
use Rattle.jl_base.specs.Results.{◌>>=◌}
use Rattle.jl_base.specs.declared.kind.Kind.{Kind}
use Rattle.jl_base.specs.declared.kind.Kind.TheVariants.{NoTerm}
use Rattle.jl_base.specs.declared.place.Place.{Place}
use Rattle.jl_base.specs.declared.place.Fault.{Fault}
use Rattle.jl_rows.specs.Written.{StreamOptions, Term}
use Rattle.jl_state.specs.States.{State}
use Rattle.jl_state.specs.declared.stop.Stop.{Stop}
use Rattle.jl_state.specs.declared.stop.Stop.TheVariants as stops
use Rattle.jl_sym_laws.specs.RelativeIds.{Refs}
use Rattle.jl_sym_laws.specs.Summaries.{Written, Demand, Need, Kept, Left, Summary}
use Rattle.jl_sym_laws.specs.Acting.{act, unmet}
use Rattle.jl_sym_laws.specs.Composing.{AreBefore, has_left}
use Rattle.jl_sym_laws.specs.SmallSteps.{demand, term_demands}
use Rattle.jl_sym_laws.specs.Cutting.{AreMadeWrites, Sized}
use Rattle.jl_state.specs.Running.{at_place}
use Rattle.jl_sym.specs.Earlier.{Earlier}

-- demands of a row that has so many rows of the run before it
abbrev pub moved : ℕ → List Demand → List Demand
moved rows ds = map {A = Demand} (λ (d : Demand). record d { moment = rows }) ds

-- the writes of the rows before, and perhaps those of one row more
pub record AreOfRun (was : Earlier) (ws : List Written) : Type 0 where
  pub made : AreMadeWrites 0 ws
  pub before : AreBefore (was.rows + 1) ws
  pub begin : (more : List Written) × (ws ≡ was.writes ++ more)

abbrev pub never_at : ℕ → Place → Kind → Demand
never_at rows place kind = record (demand place kind Need.Never) { moment = rows }

-- The demands that were made ask of a state what those did that were there and these; or a certain fault comes after them.
abbrev pub Asks : StreamOptions → Earlier → Place → List Demand → List Demand → List Demand → Result (Unit {0}) Stop → Type 0
Asks o was place old said new (Ok _) = (s : State) (ws : List Written) → Sized o s → AreOfRun was ws → unmet s ws new ≡ unmet s ws (old ++ moved was.rows said)
Asks o was place old said new (Err (stops.Fault kind)) = (s : State) (ws : List Written) → Sized o s → AreOfRun was ws → unmet s ws (new ++ never_at was.rows place kind ∷ []) ≡ unmet s ws (old ++ moved was.rows said)
Asks o was place old said new (Err stops.NoMemory) = Unit {0}

-- what is asked for a position that a term is set at, or repeated; so many rows left this there
abbrev pub perhaps : Place → Kind → Option Need → List Demand
perhaps place kind None = []
perhaps place kind (Some need) = demand place kind need ∷ []

abbrev pub place_demands : Place → Kept → Left → Refs → Term → List Demand
place_demands place x left r Term.Unset = perhaps place NoTerm (has_left x left)
place_demands place x left r (Term.Iri i) = term_demands place r (Term.Iri i)
place_demands place x left r (Term.Bnode label) = term_demands place r (Term.Bnode label)
place_demands place x left r (Term.Literal lex e) = term_demands place r (Term.Literal lex e)
place_demands place x left r (Term.Nested a b c) = term_demands place r (Term.Nested a b c)
place_demands place x left r Term.Default = term_demands place r Term.Default
place_demands place x left r (Term.Refused kind) = term_demands place r (Term.Refused kind)

-- On the states of a file the summary was extended by these steps of the row at a place; or a certain fault comes after it.
abbrev pub Grows : StreamOptions → Place → (State → Result State Kind) → Summary → Summary → Result (Unit {0}) Stop → Type 0
Grows o place f old new (Ok _) = (s : State) → Sized o s → act new s ≡ (act old s >>= λ t. at_place place (f t))
Grows o place f old new (Err (stops.Fault kind)) = (s : State) → Sized o s → (act new s >>= λ (t : State). let r : Result State Fault = Err (record { place = place; kind = kind }) in r) ≡ (act old s >>= λ t. at_place place (f t))
Grows o place f old new (Err stops.NoMemory) = Unit {0}
