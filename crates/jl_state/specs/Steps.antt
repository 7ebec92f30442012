-- What one row does to a state, or its first fault.
use Rattle.std.specs.Prelude.{◌&&◌, ℕ, ◌+◌, ◌==◌, not, List, [], ◌∷◌, ◌++◌, length, slice_set, Option, Some, None, is_some, Result, Ok, Err, nat_lt, if◌then◌else◌}
use Rattle.jl_base.specs.Results.{◌>>=◌, refuse_if, some_or}
use Rattle.jl_base.specs.Terms.{Value, Item}
use Rattle.jl_base.specs.declared.kind.Kind.{Kind}
use Rattle.jl_base.specs.declared.kind.Kind.TheVariants.{OptionsDiffer, WrongRow, BadEntry, NoTerm, NoGraph, GraphOpen, EarlyNamespace}
use Rattle.jl_rows.specs.declared.row.Table.{Table}
use Rattle.jl_rows.specs.Written.{Ids, Term, StreamOptions, Row}
use Rattle.jl_rows.specs.Values.{Slots, filled, prefix_text, tail_of}
use Rattle.jl_rows.specs.Decoder.{is_same, is_graphs, is_wrong_row, read_under, stated}
use Rattle.jl_state.specs.States.{State, table_of, entry_of, slots_in}

-- the last ids once an IRI was read
abbrev pub ids_after : Ids → Ids → Ids
ids_after i last = record {
  prefix = if i.prefix == 0 then last.prefix else i.prefix;
  name = if i.name == 0 then last.name + 1 else i.name;
}

-- the text of the IRI that has the last ids
abbrev pub text_at : Slots → Ids → Result (List ℕ) Kind
text_at slots ids = do
  prefix ← prefix_text slots ids.prefix
  name ← filled slots Table.Name ids.name
  Ok (prefix ++ name)

abbrev pub Looked : Type 0
Looked = Result (Value × Ids) Kind

-- a term that must be set, with the last ids behind it
abbrev pub looked : Slots → Ids → Term → Looked
looked slots last Term.Unset = Err NoTerm
looked slots last (Term.Iri i) = text_at slots (ids_after i last) >>= λ t. Ok (Value.Iri t, ids_after i last)
looked slots last (Term.Bnode label) = Ok (Value.Bnode label, last)
looked slots last (Term.Literal lex e) = tail_of slots e >>= λ t. Ok (Value.Literal lex t, last)
looked slots last (Term.Nested s p o) = do
  a ← looked slots last s
  b ← looked slots a.1 p
  c ← looked slots b.1 o
  Ok (Value.Nested a.0 b.0 c.0, c.1)
looked slots last Term.Default = Ok (Value.Default, last)
looked slots last (Term.Refused k) = Err k

-- a term at a position, or the last one there again
abbrev pub placed : Slots → Ids → Option Value → Term → Looked
placed slots last before Term.Unset = some_or before NoTerm >>= λ v. Ok (v, last)
placed slots last before (Term.Iri i) = looked slots last (Term.Iri i)
placed slots last before (Term.Bnode label) = looked slots last (Term.Bnode label)
placed slots last before (Term.Literal lex e) = looked slots last (Term.Literal lex e)
placed slots last before (Term.Nested s p o) = looked slots last (Term.Nested s p o)
placed slots last before Term.Default = looked slots last Term.Default
placed slots last before (Term.Refused k) = looked slots last (Term.Refused k)

-- the id of an entry by the rule for 0
abbrev pub id_after : ℕ → ℕ → ℕ
id_after written last = if written == 0 then last + 1 else written

-- a table with one more entry
abbrev pub entered : Table → ℕ → List ℕ → State → State
entered Table.Name id text s = record s { tables = record s.tables { names = slice_set s.tables.names id (Some text) }; name_entry = id }
entered Table.Prefix id text s = record s { tables = record s.tables { prefixes = slice_set s.tables.prefixes id (Some text) }; prefix_entry = id }
entered Table.Datatype id text s = record s { tables = record s.tables { datatypes = slice_set s.tables.datatypes id (Some text) }; datatype_entry = id }

-- an entry whose id is in the table
abbrev pub entry_step : Table → ℕ → List ℕ → State → Result State Kind
entry_step t id text s = if nat_lt id (length (table_of s t)) then Ok (entered t id text s) else Err BadEntry

-- the graph that a triple belongs to
abbrev pub graph_for : StreamOptions → State → Result (Option Value) Kind
graph_for o s = if is_graphs o then (some_or s.open_graph NoGraph >>= λ g. Ok (Some g)) else Ok None

abbrev pub Stepped : Type 0
Stepped = Result (State × List Item) Kind

abbrev pub triple_step : StreamOptions → Term → Term → Term → State → Stepped
triple_step o s p ob t = do
  g ← graph_for o t
  a ← placed (slots_in t) t.ids t.subject s
  b ← placed (slots_in t) a.1 t.predicate p
  c ← placed (slots_in t) b.1 t.object ob
  Ok (record t { ids = c.1; subject = Some a.0; predicate = Some b.0; object = Some c.0 }, stated g a.0 b.0 c.0 ∷ [])

abbrev pub quad_step : Term → Term → Term → Term → State → Stepped
quad_step s p ob g t = do
  a ← placed (slots_in t) t.ids t.subject s
  b ← placed (slots_in t) a.1 t.predicate p
  c ← placed (slots_in t) b.1 t.object ob
  d ← placed (slots_in t) c.1 t.graph g
  Ok (record t { ids = d.1; subject = Some a.0; predicate = Some b.0; object = Some c.0; graph = Some d.0 }, Item.Quad a.0 b.0 c.0 d.0 ∷ [])

abbrev pub graph_start_step : Term → State → Stepped
graph_start_step g t = do
  _ ← refuse_if (is_some t.open_graph) GraphOpen
  v ← looked (slots_in t) t.ids g
  Ok (record t { ids = v.1; open_graph = Some v.0 }, [])

abbrev pub graph_end_step : State → Stepped
graph_end_step t = some_or t.open_graph NoGraph >>= λ _. Ok (record t { open_graph = None }, [])

abbrev pub namespace_step : StreamOptions → List ℕ → Option Ids → State → Stepped
namespace_step o name i t = do
  _ ← refuse_if (o.strict && (o.version == 1)) EarlyNamespace
  ids ← some_or i NoTerm
  iri ← text_at (slots_in t) (ids_after ids t.ids)
  Ok (record t { ids = ids_after ids t.ids }, Item.Namespace name iri ∷ [])

abbrev pub row_step : StreamOptions → Row → State → Stepped
row_step o (Row.Options p) t = refuse_if (not (is_same o p)) OptionsDiffer >>= λ _. Ok (t, [])
row_step o (Row.Entry u id text) t = entry_step u (id_after id (entry_of t u)) text t >>= λ n. Ok (n, [])
row_step o Row.GraphEnd t = graph_end_step t
row_step o (Row.GraphStart g) t = graph_start_step g t
row_step o (Row.Namespace name i) t = namespace_step o name i t
row_step o (Row.Triple s p ob) t = triple_step o s p ob t
row_step o (Row.Quad s p ob g) t = quad_step s p ob g t

-- one row
abbrev pub step : StreamOptions → Row → State → Stepped
step o r t = refuse_if (is_wrong_row o r) WrongRow >>= λ _. row_step o (read_under o r) t
