-- A summary: what a run of rows does to a state that isn't known yet. A moment is how many rows of the run were read.
use Rattle.std.specs.Prelude.{ℕ, List, []}
use Rattle.jl_base.specs.declared.place.Fault.{Fault}
use Rattle.jl_rows.specs.declared.row.Table.{Table}
use Rattle.jl_rows.specs.Values.{Position}
use Rattle.jl_sym_laws.specs.RelativeIds.{Id, Refs, incoming}
use Rattle.jl_sym_laws.specs.Symbols.{SymTerm}

-- an entry of a lookup table: after so many rows, this text went into the slot of this id
pub record Written : Type 0 where
  pub moment : ℕ
  pub table : Table
  pub id : Id
  pub text : List ℕ

-- what a state keeps by value: the last term at a position, and the open graph
pub data Kept : Type 0 where
  LastAt : Position → Kept
  OpenGraph : Kept

-- what must hold of the incoming state
pub data Need : Type 0 where
  Fits : Table → Id → Need
  Filled : Table → Id → Need
  Has : Kept → Need
  Lacks : Kept → Need
  Never : Need

-- a need at a moment, with the fault that it is where it isn't met
pub record Demand : Type 0 where
  pub moment : ℕ
  pub fault : Fault
  pub need : Need

-- a term, whose texts are those in the slots at a moment
pub record Held : Type 0 where
  pub moment : ℕ
  pub term : SymTerm

-- what a run leaves of a thing that is kept: the incoming one, nothing, or a term
pub data Left : Type 0 where
  Incoming : Left
  Cleared : Left
  Set : Held → Left

pub record Summary : Type 0 where
  pub rows : ℕ
  pub writes : List Written
  pub name_entry : Id
  pub prefix_entry : Id
  pub datatype_entry : Id
  pub ids : Refs
  pub demands : List Demand
  pub subject : Left
  pub predicate : Left
  pub object : Left
  pub graph : Left
  pub open_graph : Left

abbrev pub entry_in : Summary → Table → Id
entry_in m Table.Name = m.name_entry
entry_in m Table.Prefix = m.prefix_entry
entry_in m Table.Datatype = m.datatype_entry

-- the last id of a table that a reference can count on from; a datatype's never does
abbrev pub last_in : Refs → Table → Id
last_in r Table.Name = r.name
last_in r Table.Prefix = r.prefix
last_in r Table.Datatype = Id.Given 0

abbrev pub left_in : Summary → Kept → Left
left_in m (Kept.LastAt Position.Subject) = m.subject
left_in m (Kept.LastAt Position.Predicate) = m.predicate
left_in m (Kept.LastAt Position.Object) = m.object
left_in m (Kept.LastAt Position.Graph) = m.graph
left_in m Kept.OpenGraph = m.open_graph

-- no rows
abbrev pub unit : Summary
unit = record {
  rows = 0;
  writes = [];
  name_entry = Id.After 0;
  prefix_entry = Id.After 0;
  datatype_entry = Id.After 0;
  ids = incoming;
  demands = [];
  subject = Left.Incoming;
  predicate = Left.Incoming;
  object = Left.Incoming;
  graph = Left.Incoming;
  open_graph = Left.Incoming;
}
