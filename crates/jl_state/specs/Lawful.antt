-- The state of the code: what it stands for, and what it keeps.
use Rattle.std.specs.Prelude.{◌≡◌, ℕ, ◌+◌, ◌≤◌, List, [], ◌∷◌, length, Option, Some, None, Result, Ok, Err, ◌++◌, if◌then◌else◌}
use Rattle.std.specs.Option.{option_map}
use Rattle.jl_base.specs.Terms.{Value, Item}
use Rattle.jl_base.specs.Results.{◌>>=◌}
use Rattle.jl_base.specs.Spans.{text_of, IsInside}
use Rattle.jl_base.specs.declared.kind.Kind.{Kind}
use Rattle.jl_rows.specs.Written.{Ids, StreamOptions}
use Rattle.jl_rows.specs.Decoder.{most_entries, is_quads, is_graphs}
use Rattle.jl_state.specs.declared.known.Known.{Known}
use Rattle.jl_state.specs.declared.state.State.{State}
use Rattle.jl_state.specs.declared.step.Stated.{Stated}
use Rattle.jl_state.specs.declared.step.Stated.TheVariants as stated
use Rattle.jl_state.specs.declared.stop.Stop.{Stop}
use Rattle.jl_state.specs.declared.tables.LastIds.{LastIds}
use Rattle.jl_state.specs.States as states
use Rattle.jl_state.specs.Steps.{Stepped, Looked}
use Rattle.jl_state.specs.Extents.{text_in, IsSound}
use Rattle.jl_state.specs.KnownTerms.{known_value, HasKnown}
use Rattle.jl_state.specs.Seen.{tables_seen, ids_seen, AreTables}
use Rattle.jl_state.specs.Answers.{Stops}

abbrev pub maybe_value : List ℕ → Option Known → Option Value
maybe_value bytes k = option_map (known_value bytes) k

abbrev pub HasMaybe : List ℕ → Option Known → Type 0
HasMaybe bytes None = Unit {0}
HasMaybe bytes (Some k) = HasKnown bytes k

abbrev pub state_seen : List ℕ → State → states.State
state_seen bytes s = record {
  tables = tables_seen bytes s.tables;
  name_entry = s.name_entry;
  prefix_entry = s.prefix_entry;
  datatype_entry = s.datatype_entry;
  ids = ids_seen s.last;
  subject = maybe_value bytes s.subject;
  predicate = maybe_value bytes s.predicate;
  object = maybe_value bytes s.object;
  graph = maybe_value bytes s.graph;
  open_graph = maybe_value bytes s.open_graph;
}

-- What a state keeps: its texts lie in the bytes, and its ids in the tables.
pub record IsLawful (bytes : List ℕ) (s : State) : Type 0 where
  pub options : IsInside bytes s.options.stream_name
  pub tables : AreTables bytes s.tables
  pub prefixes : length s.tables.prefixes.items ≤ most_entries + 1
  pub datatypes : length s.tables.datatypes.items ≤ most_entries + 1
  pub name_entry : s.name_entry ≤ most_entries
  pub prefix_entry : s.prefix_entry ≤ most_entries
  pub datatype_entry : s.datatype_entry ≤ most_entries
  pub last : s.last.name ≤ most_entries
  pub subject : HasMaybe bytes s.subject
  pub predicate : HasMaybe bytes s.predicate
  pub object : HasMaybe bytes s.object
  pub graph : HasMaybe bytes s.graph
  pub open_graph : HasMaybe bytes s.open_graph

-- the value at a position that holds one
abbrev pub value_or_default : Option Value → Value
value_or_default (Some v) = v
value_or_default None = Value.Default

-- the statement of the last terms, in a file of these options
abbrev pub statement_of : StreamOptions → states.State → Item
statement_of o t =
    if is_quads o then Item.Quad (value_or_default t.subject) (value_or_default t.predicate) (value_or_default t.object) (value_or_default t.graph)
    else if is_graphs o then Item.Quad (value_or_default t.subject) (value_or_default t.predicate) (value_or_default t.object) (value_or_default t.open_graph)
    else Item.Triple (value_or_default t.subject) (value_or_default t.predicate) (value_or_default t.object)

-- what a row states, from the state behind it
abbrev pub items_of : List ℕ → StreamOptions → Stated → states.State → List Item
items_of bytes o stated.Nothing t = []
items_of bytes o stated.Statement t = statement_of o t ∷ []
items_of bytes o (stated.Namespace name prefix iri) t = Item.Namespace (text_of bytes name) (text_in bytes prefix ++ text_in bytes iri) ∷ []

-- A step of the code makes the definition's, or has its fault. Want of memory is free.
abbrev pub Steps : List ℕ → StreamOptions → Stepped → State → Result Stated Stop → Type 0
Steps bytes o said after (Ok stated) = said ≡ Ok (state_seen bytes after, items_of bytes o stated (state_seen bytes after))
Steps bytes o said after (Err stop) = Stops said stop

abbrev pub HasStated : List ℕ → Stated → Type 0
HasStated bytes stated.Nothing = Unit {0}
HasStated bytes stated.Statement = Unit {0}
HasStated bytes (stated.Namespace name prefix iri) = IsInside bytes name × IsSound bytes prefix × IsSound bytes iri

-- a term as a position holds it
abbrev pub held : Looked → Result (Option Value × Ids) Kind
held said = ◌>>=◌ {B = Option Value × Ids} said (λ v. Ok (Some v.0, v.1))

-- A term at a position: what stands there afterwards, with the last ids behind it.
abbrev pub Places : List ℕ → Looked → Option Known → LastIds → Result (Unit {0}) Stop → Type 0
Places bytes said after last (Ok _) = held said ≡ Ok (maybe_value bytes after, ids_seen last)
Places bytes said after last (Err stop) = Stops said stop
