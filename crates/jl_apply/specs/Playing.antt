-- How far the log of a summary has been played into the tables of a state.
use Rattle.std.specs.Prelude.{◌≡◌, ℕ, ◌<◌, ◌≤◌, List, [], ◌∷◌, length, map, Option, Some, None, Result, Ok, Err}
use Rattle.jl_base.specs.Terms.{Value}
use Rattle.jl_base.specs.declared.place.Fault.{Fault}
use Rattle.jl_rows.specs.declared.row.Table.{Table}
use Rattle.jl_state.specs.declared.tables.Tables as code
use Rattle.jl_state.specs.States.{Tables, State}
use Rattle.jl_state.specs.Seen.{tables_seen, AreTables}
use Rattle.jl_sym_laws.specs.Symbols.{sym_value}
use Rattle.jl_sym_laws.specs.Summaries.{Written, Demand, Left}
use Rattle.jl_sym_laws.specs.Acting.{played, slots_at, unmet}
use Rattle.jl_sym_laws.specs.Composing.{AreWithin}
use Rattle.jl_sym_laws.specs.Cutting.{AreMadeWrites, AreMadeDemands}
use Rattle.jl_sym.specs.declared.summary.Write.{Write}
use Rattle.jl_sym.specs.Seen.{write_seen, demands_seen}
use Rattle.jl_apply.specs.declared.incoming.Incoming.{Incoming}
use Rattle.jl_apply.specs.declared.log.Rest.{Rest}
use Rattle.jl_apply.specs.Incoming.{last_of}

abbrev pub writes_seen : List ℕ → List Write → List Written
writes_seen bytes ws = map (write_seen bytes) ws

-- tables that were written to
pub record KeepsTables (bytes : List ℕ) (old new : code.Tables) : Type 0 where
  pub tables : AreTables bytes new
  pub names : length new.names.items ≡ length old.names.items
  pub prefixes : length new.prefixes.items ≡ length old.prefixes.items
  pub datatypes : length new.datatypes.items ≡ length old.datatypes.items

-- From tables with a log to come, up to a moment: the tables as they are by then, and the log that is left.
pub record Advances (last : Table → ℕ) (x : Tables) (ws : List Written) (k : ℕ) (y : Tables) (vs : List Written) : Type 0 where
  pub ahead : (n : ℕ) → k ≤ n → played last n x ws ≡ played last n y vs
  pub now : played last k x ws ≡ y
  pub rises : AreMadeWrites 0 vs

-- Somewhere up to a limit: all demands so far were met, and these are left.
pub record Passing (i : Incoming) (s : State) (ws : List Written) (ds : List Demand) (limit : ℕ) (x : Tables) (vs : List Written) (es : List Demand) : Type 0 where
  pub reached : ℕ
  pub below : reached ≤ limit
  pub advances : Advances (last_of i) s.tables ws reached x vs
  pub demands : AreMadeDemands reached es
  pub faults : unmet s ws ds ≡ unmet s ws es
  pub within : (n : ℕ) → AreWithin n ds → AreWithin n es

-- the first demand is later than the moment
abbrev pub IsLate : ℕ → List Demand → Type 0
IsLate k [] = Unit {0}
IsLate k (d ∷ ds) = k < d.moment

-- up to a moment
pub record Passed (i : Incoming) (s : State) (ws : List Written) (ds : List Demand) (k : ℕ) (x : Tables) (vs : List Written) (es : List Demand) : Type 0 where
  pub advances : Advances (last_of i) s.tables ws k x vs
  pub demands : AreMadeDemands k es
  pub late : IsLate k es
  pub faults : unmet s ws ds ≡ unmet s ws es
  pub within : (n : ℕ) → AreWithin n ds → AreWithin n es

abbrev pub Passes : List ℕ → Incoming → State → List Written → List Demand → ℕ → code.Tables → Result Rest Fault → Type 0
Passes bytes i s ws ds k x (Ok rest) = Passed i s ws ds k (tables_seen bytes x) (writes_seen bytes rest.writes.now) (demands_seen rest.demands.now)
Passes bytes i s ws ds k x (Err fault) = unmet s ws ds ≡ Some fault

-- a term that is set before a moment has been read
abbrev pub IsReadBefore : State → List Written → ℕ → Left → Option Value → Type 0
IsReadBefore s ws from Left.Incoming v = Unit {0}
IsReadBefore s ws from Left.Cleared v = Unit {0}
IsReadBefore s ws from (Left.Set h) v = h.moment < from → v ≡ Some (sym_value (slots_at s ws h.moment) s.ids h.term)

-- the next moment from this one on at which it is read, if any
abbrev pub IsDueBy : ℕ → Left → Option ℕ → Type 0
IsDueBy from Left.Incoming k = Unit {0}
IsDueBy from Left.Cleared k = Unit {0}
IsDueBy from (Left.Set h) None = h.moment < from
IsDueBy from (Left.Set h) (Some k) = from ≤ h.moment → k ≤ h.moment
