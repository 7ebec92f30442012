-- What a decoder keeps while it goes through the rows: the slots of the lookup tables, the last ids, the last term at
-- each position and the open graph.
use Rattle.std.specs.Prelude.{ℕ, ◌+◌, List, replicate, slice_index_or, Option, None}
use Rattle.jl_base.specs.Terms.{Value}
use Rattle.jl_rows.specs.declared.row.Table.{Table}
use Rattle.jl_rows.specs.Written.{Ids, StreamOptions}
use Rattle.jl_rows.specs.Values.{Slots, Position}
use Rattle.jl_rows.specs.Decoder.{size_of}

-- A table's slots, by their ids. The one of id 0 is never filled.
abbrev pub Filling : Type 0
Filling = List (Option (List ℕ))

pub record Tables : Type 0 where
  pub names : Filling
  pub prefixes : Filling
  pub datatypes : Filling

pub record State : Type 0 where
  pub tables : Tables
  pub name_entry : ℕ
  pub prefix_entry : ℕ
  pub datatype_entry : ℕ
  pub ids : Ids
  pub subject : Option Value
  pub predicate : Option Value
  pub object : Option Value
  pub graph : Option Value
  pub open_graph : Option Value

abbrev pub table_in : Tables → Table → Filling
table_in ts Table.Name = ts.names
table_in ts Table.Prefix = ts.prefixes
table_in ts Table.Datatype = ts.datatypes

abbrev pub table_of : State → Table → Filling
table_of s t = table_in s.tables t

-- the id of a table's last entry, 0 before the first
abbrev pub entry_of : State → Table → ℕ
entry_of s Table.Name = s.name_entry
entry_of s Table.Prefix = s.prefix_entry
entry_of s Table.Datatype = s.datatype_entry

abbrev pub term_of : State → Position → Option Value
term_of s Position.Subject = s.subject
term_of s Position.Predicate = s.predicate
term_of s Position.Object = s.object
term_of s Position.Graph = s.graph

abbrev pub slots_of_tables : Tables → Slots
slots_of_tables ts t id = slice_index_or (table_in ts t) id None

abbrev pub slots_in : State → Slots
slots_in s = slots_of_tables s.tables

abbrev pub unfilled : StreamOptions → Table → Filling
unfilled o t = replicate (size_of o t + 1) None

-- before the first row
abbrev pub opening : StreamOptions → State
opening o = record {
  tables = record { names = unfilled o Table.Name; prefixes = unfilled o Table.Prefix; datatypes = unfilled o Table.Datatype };
  name_entry = 0;
  prefix_entry = 0;
  datatype_entry = 0;
  ids = record { prefix = 0; name = 0 };
  subject = None;
  predicate = None;
  object = None;
  graph = None;
  open_graph = None;
}
