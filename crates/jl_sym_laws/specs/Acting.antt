-- What a summary does to a state.
use Rattle.std.specs.Prelude.{ℕ, Bool, false, not, List, [], ◌∷◌, length, slice_set, Option, Some, None, is_some, Result, nat_lt, if◌then◌else◌}
use Rattle.jl_base.specs.Results.{answered}
use Rattle.jl_base.specs.Terms.{Value}
use Rattle.jl_base.specs.declared.kind.Kind.{Kind}
use Rattle.jl_base.specs.declared.place.Fault.{Fault}
use Rattle.jl_rows.specs.declared.row.Table.{Table}
use Rattle.jl_rows.specs.Written.{Ids}
use Rattle.jl_rows.specs.Values.{Slots, filled, prefix_text}
use Rattle.jl_state.specs.States.{Tables, State, table_of, entry_of, term_of, slots_of_tables}
use Rattle.jl_state.specs.Running.{settled}
use Rattle.jl_sym_laws.specs.RelativeIds.{real, real_ids}
use Rattle.jl_sym_laws.specs.Symbols.{sym_value}
use Rattle.jl_sym_laws.specs.Summaries.{Written, Kept, Need, Demand, Left, Summary}

-- a text into a slot of a table
abbrev pub filled_in : Tables → Table → ℕ → List ℕ → Tables
filled_in x Table.Name id text = record x { names = slice_set x.names id (Some text) }
filled_in x Table.Prefix id text = record x { prefixes = slice_set x.prefixes id (Some text) }
filled_in x Table.Datatype id text = record x { datatypes = slice_set x.datatypes id (Some text) }

-- one write, where it comes before the moment; the ids count on from these last entries
abbrev pub put : (Table → ℕ) → ℕ → Tables → Written → Tables
put last moment x w = if nat_lt w.moment moment then filled_in x w.table (real w.id (last w.table)) w.text else x

-- the tables at a moment: the writes before it, one after another
unfoldable pub played : (Table → ℕ) → ℕ → Tables → List Written → Tables
played last moment x [] = x
played last moment x (w ∷ ws) = played last moment (put last moment x w) ws

abbrev pub tables_at : State → List Written → ℕ → Tables
tables_at s ws moment = played (entry_of s) moment s.tables ws

abbrev pub slots_at : State → List Written → ℕ → Slots
slots_at s ws moment = slots_of_tables (tables_at s ws moment)

-- the text of a reference; a prefix of id 0 is the empty one
abbrev pub text_in : Slots → Table → ℕ → Result (List ℕ) Kind
text_in slots Table.Name id = filled slots Table.Name id
text_in slots Table.Prefix id = prefix_text slots id
text_in slots Table.Datatype id = filled slots Table.Datatype id

-- the last id that a table's references count on from
abbrev pub last_id : Ids → Table → ℕ
last_id ids Table.Name = ids.name
last_id ids Table.Prefix = ids.prefix
last_id ids Table.Datatype = 0

abbrev pub kept_of : State → Kept → Option Value
kept_of s (Kept.LastAt x) = term_of s x
kept_of s Kept.OpenGraph = s.open_graph

-- whether a state meets a need at a moment of a run with these writes
abbrev pub meets : State → List Written → ℕ → Need → Bool
meets s ws moment (Need.Fits t id) = nat_lt (real id (entry_of s t)) (length (table_of s t))
meets s ws moment (Need.Filled t id) = is_some (answered (text_in (slots_at s ws moment) t (real id (last_id s.ids t))))
meets s ws moment (Need.Has x) = is_some (kept_of s x)
meets s ws moment (Need.Lacks x) = not (is_some (kept_of s x))
meets s ws moment Need.Never = false

-- the fault of the first demand that isn't met
unfoldable pub unmet : State → List Written → List Demand → Option Fault
unmet s ws [] = None
unmet s ws (d ∷ ds) = if meets s ws d.moment d.need then unmet s ws ds else Some d.fault

-- what stands afterwards of a thing that is kept
abbrev pub left_after : State → List Written → Left → Option Value → Option Value
left_after s ws Left.Incoming before = before
left_after s ws Left.Cleared before = None
left_after s ws (Left.Set h) before = Some (sym_value (slots_at s ws h.moment) s.ids h.term)

-- the state after the run, where all demands are met
abbrev pub state_after : Summary → State → State
state_after m s = record {
  tables = tables_at s m.writes m.rows;
  name_entry = real m.name_entry s.name_entry;
  prefix_entry = real m.prefix_entry s.prefix_entry;
  datatype_entry = real m.datatype_entry s.datatype_entry;
  ids = real_ids m.ids s.ids;
  subject = left_after s m.writes m.subject s.subject;
  predicate = left_after s m.writes m.predicate s.predicate;
  object = left_after s m.writes m.object s.object;
  graph = left_after s m.writes m.graph s.graph;
  open_graph = left_after s m.writes m.open_graph s.open_graph;
}

-- what a summary does to a state: the first fault, or the state after the run
abbrev pub act : Summary → State → Result State Fault
act m s = settled (unmet s m.writes m.demands) (state_after m s)
