-- What the code does with a summary and a state, against what the summary does.
use Rattle.std.specs.Prelude.{◌≡◌, ℕ, Bool, true, false, ◌||◌, List, Option, Some, None, Result, Ok, Err}
use Rattle.jl_base.specs.declared.place.Fault.{Fault}
use Rattle.jl_rows.specs.Seen.{options_seen, term_seen}
use Rattle.jl_rows.specs.declared.options.Options.{Options}
use Rattle.jl_state.specs.declared.known.Known.{Known}
use Rattle.jl_state.specs.declared.state.State.{State}
use Rattle.jl_state.specs.declared.tables.Tables.{Tables}
use Rattle.jl_state.specs.Lawful.{state_seen, maybe_value, HasMaybe, IsLawful}
use Rattle.jl_state.specs.Positions.{is_triple_term}
use Rattle.jl_state.specs.Seen.{tables_seen}
use Rattle.jl_state.specs.States as states
use Rattle.jl_sym_laws.specs.Acting.{tables_at, unmet}
use Rattle.jl_sym_laws.specs.Staying.{IsSettled}
use Rattle.jl_sym_laws.specs.Summaries as sums
use Rattle.jl_sym.specs.declared.summary.Left.{Left}
use Rattle.jl_sym.specs.declared.summary.Left.TheVariants as lefts
use Rattle.jl_sym.specs.declared.summary.Summary.{Summary}
use Rattle.jl_apply.specs.declared.acting.Halt.{Halt}
use Rattle.jl_apply.specs.declared.acting.Halt.TheVariants as halts
use Rattle.jl_apply.specs.declared.acting.Outcome.{Outcome}
use Rattle.jl_apply.specs.declared.acting.Outcome.TheVariants as outcomes
use Rattle.jl_apply.specs.declared.new_terms.NewTerms.{NewTerms}
use Rattle.jl_apply.specs.Playing.{IsReadBefore, IsDueBy}

-- a fault is the definition's; want of memory is free
abbrev pub Halts : {A : Type 0} → Result A Fault → Halt → Type 0
Halts said (halts.Fault fault) = said ≡ Err fault
Halts said halts.NoMemory = Unit {0}

abbrev pub Applies : List ℕ → Result states.State Fault → State → Result (Unit {0}) Halt → Type 0
Applies bytes said after (Ok _) = said ≡ Ok (state_seen bytes after)
Applies bytes said after (Err halt) = Halts said halt

-- what comes of a copy
abbrev pub IsOutcome : List ℕ → Result states.State Fault → Outcome → Type 0
IsOutcome bytes said (outcomes.After state) = said ≡ Ok (state_seen bytes state)
IsOutcome bytes said (outcomes.Faulted fault) = said ≡ Err fault

-- a state after a run of a file of these options
pub record IsAfter (bytes : List ℕ) (options : Options) (state : State) : Type 0 where
  pub options_are : state.options ≡ options
  pub lawful : IsLawful bytes state
  pub settled : IsSettled (options_seen bytes options) (state_seen bytes state)

abbrev pub HasAfter : List ℕ → Options → Outcome → Type 0
HasAfter bytes options (outcomes.After state) = IsAfter bytes options state
HasAfter bytes options (outcomes.Faulted fault) = Unit {0}

-- a triple term is left
abbrev pub is_triple_left : List ℕ → Left → Bool
is_triple_left bytes lefts.Incoming = false
is_triple_left bytes lefts.Cleared = false
is_triple_left bytes (lefts.Set moment before term) = is_triple_term (term_seen bytes term)

abbrev pub leaves_triple_term : List ℕ → Summary → Bool
leaves_triple_term bytes m =
    is_triple_left bytes m.subject || (is_triple_left bytes m.predicate || (is_triple_left bytes m.object || (is_triple_left bytes m.graph || is_triple_left bytes m.open_graph)))

-- memory is wanted only where this is so
abbrev pub WantsFor : Bool → Halt → Type 0
WantsFor is (halts.Fault fault) = Unit {0}
WantsFor is halts.NoMemory = is ≡ true

-- each term that is set before a moment has been read
pub record AreRead (bytes : List ℕ) (s : states.State) (m : sums.Summary) (from : ℕ) (terms : NewTerms) : Type 0 where
  pub subject : IsReadBefore s m.writes from m.subject (maybe_value bytes terms.subject)
  pub predicate : IsReadBefore s m.writes from m.predicate (maybe_value bytes terms.predicate)
  pub object : IsReadBefore s m.writes from m.object (maybe_value bytes terms.object)
  pub graph : IsReadBefore s m.writes from m.graph (maybe_value bytes terms.graph)
  pub open_graph : IsReadBefore s m.writes from m.open_graph (maybe_value bytes terms.open_graph)

pub record HasNewTerms (bytes : List ℕ) (terms : NewTerms) : Type 0 where
  pub subject : HasMaybe bytes terms.subject
  pub predicate : HasMaybe bytes terms.predicate
  pub object : HasMaybe bytes terms.object
  pub graph : HasMaybe bytes terms.graph
  pub open_graph : HasMaybe bytes terms.open_graph

-- the next moment from this one on at which terms are read
pub record IsStop (m : sums.Summary) (from : ℕ) (k : Option ℕ) : Type 0 where
  pub subject : IsDueBy from m.subject k
  pub predicate : IsDueBy from m.predicate k
  pub object : IsDueBy from m.object k
  pub graph : IsDueBy from m.graph k
  pub open_graph : IsDueBy from m.open_graph k

-- a log that was played to its end
abbrev pub Plays : List ℕ → states.State → sums.Summary → Tables → Result NewTerms Halt → Type 0
Plays bytes s m x (Ok terms) = (unmet s m.writes m.demands ≡ None) × (tables_at s m.writes m.rows ≡ tables_seen bytes x)
    × ((from : ℕ) × IsStop m from None × AreRead bytes s m from terms)
Plays bytes s m x (Err (halts.Fault fault)) = unmet s m.writes m.demands ≡ Some fault
Plays bytes s m x (Err halts.NoMemory) = Unit {0}

-- what stands of a thing that is kept, once a summary has acted
abbrev pub put_left : Left → Option Known → Option Known → Option Known
put_left lefts.Incoming before value = before
put_left lefts.Cleared before value = None
put_left (lefts.Set moment ids term) before value = value
