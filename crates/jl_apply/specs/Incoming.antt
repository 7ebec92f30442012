-- What stays of the incoming state while the log is played into its tables.
use Rattle.std.specs.Prelude.{◌≡◌, ℕ, ◌≤◌, Bool, false, not, length, is_some, nat_lt}
use Rattle.jl_base.specs.Results.{answered}
use Rattle.jl_rows.specs.declared.row.Table.{Table}
use Rattle.jl_rows.specs.Decoder.{most_entries}
use Rattle.jl_state.specs.States.{Tables, State, table_in, entry_of, slots_of_tables}
use Rattle.jl_state.specs.Seen.{ids_seen}
use Rattle.jl_sym_laws.specs.RelativeIds.{real}
use Rattle.jl_sym_laws.specs.Summaries.{Need}
use Rattle.jl_sym_laws.specs.Acting.{text_in, last_id, kept_of}
use Rattle.jl_apply.specs.declared.incoming.Incoming.{Incoming}

-- the ids of the last entries
abbrev pub last_of : Incoming → Table → ℕ
last_of i Table.Name = i.name_entry
last_of i Table.Prefix = i.prefix_entry
last_of i Table.Datatype = i.datatype_entry

pub record IsSmall (i : Incoming) : Type 0 where
  pub name_entry : i.name_entry ≤ most_entries
  pub prefix_entry : i.prefix_entry ≤ most_entries
  pub datatype_entry : i.datatype_entry ≤ most_entries
  pub name : i.last.name ≤ most_entries
  pub prefix : i.last.prefix ≤ most_entries

-- It is what stays of this state.
pub record IsIncoming (i : Incoming) (s : State) : Type 0 where
  pub entries : (t : Table) → entry_of s t ≡ last_of i t
  pub ids : s.ids ≡ ids_seen i.last
  pub subject : is_some s.subject ≡ i.has_subject
  pub predicate : is_some s.predicate ≡ i.has_predicate
  pub object : is_some s.object ≡ i.has_object
  pub graph : is_some s.graph ≡ i.has_graph
  pub open_graph : is_some s.open_graph ≡ i.has_open_graph

-- whether a need is met, with the tables as they are by then
abbrev pub need_met : State → Tables → Need → Bool
need_met s x (Need.Fits t id) = nat_lt (real id (entry_of s t)) (length (table_in x t))
need_met s x (Need.Filled t id) = is_some (answered (text_in (slots_of_tables x) t (real id (last_id s.ids t))))
need_met s x (Need.Has y) = is_some (kept_of s y)
need_met s x (Need.Lacks y) = not (is_some (kept_of s y))
need_met s x Need.Never = false
