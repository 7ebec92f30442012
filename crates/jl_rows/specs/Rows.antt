-- Rows (Jelly RDF serialization, "RdfStreamRow"): one field of the ones below says what a row is.
use Rattle.std.specs.Prelude.{false, ℕ, List, [], ◌∷◌, Option, Some, None, is_some, Result, Ok, Err}
use Rattle.jl_base.specs.Results.{◌>>=◌, refuse_if, some_or}
use Rattle.jl_base.specs.declared.kind.Kind.{Kind}
use Rattle.jl_base.specs.declared.kind.Kind.TheVariants.{WrongWire, Twice, EmptyRow}
use Rattle.jl_wire.specs.Fields.{Content, Field, fields}
use Rattle.jl_rows.specs.declared.row.Table.{Table}
use Rattle.jl_rows.specs.Written.{StreamOptions, Row}
use Rattle.jl_rows.specs.declared.message.Message.{Message}
use Rattle.jl_rows.specs.declared.message.Sort.{Sort}
use Rattle.jl_rows.specs.Messages.{sort_of}
use Rattle.jl_rows.specs.Reading.{part, number_32, flag, text, term, ids, message, empty}

unfoldable pub options : List ℕ → Result StreamOptions Kind
options bytes = message Message.Options bytes >>= λ ps. Ok (record {
  stream_name = text (part ps 0);
  physical = number_32 (part ps 1);
  generalized = flag (part ps 2);
  star = flag (part ps 3);
  names = number_32 (part ps 4);
  prefixes = number_32 (part ps 5);
  datatypes = number_32 (part ps 6);
  logical = number_32 (part ps 7);
  version = number_32 (part ps 8);
  strict = false;
})

unfoldable pub triple : List ℕ → Result Row Kind
triple bytes = message Message.Triple bytes >>= λ ps. Ok (Row.Triple (term (part ps 0)) (term (part ps 1)) (term (part ps 2)))

unfoldable pub quad : List ℕ → Result Row Kind
quad bytes = message Message.Quad bytes >>= λ ps. Ok (Row.Quad (term (part ps 0)) (term (part ps 1)) (term (part ps 2)) (term (part ps 3)))

unfoldable pub graph_start : List ℕ → Result Row Kind
graph_start bytes = message Message.GraphStart bytes >>= λ ps. Ok (Row.GraphStart (term (part ps 0)))

unfoldable pub namespace : List ℕ → Result Row Kind
namespace bytes = message Message.Namespace bytes >>= λ ps. Ok (Row.Namespace (text (part ps 0)) (ids (part ps 1)))

unfoldable pub entry : Table → List ℕ → Result Row Kind
entry table bytes = message Message.Entry bytes >>= λ ps. Ok (Row.Entry table (number_32 (part ps 0)) (text (part ps 1)))

-- what a row of a kind says
abbrev pub said_by : Sort → List ℕ → Result Row Kind
said_by Sort.Options t = options t >>= λ o. Ok (Row.Options o)
said_by Sort.Triple t = triple t
said_by Sort.Quad t = quad t
said_by Sort.GraphStart t = graph_start t
said_by Sort.GraphEnd t = empty t >>= λ _. Ok Row.GraphEnd
said_by Sort.Namespace t = namespace t
said_by (Sort.Entry table) t = entry table t

-- one known field of a row; all are of one group
abbrev pub row_taken : Sort → Content → Option Row → Result (Option Row) Kind
row_taken sort (Content.Bytes t) before = refuse_if (is_some before) Twice >>= λ _. said_by sort t >>= λ r. Ok (Some r)
row_taken sort _ before = Err WrongWire

abbrev pub row_taken_if_known : Option Sort → Content → Option Row → Result (Option Row) Kind
row_taken_if_known None content before = Ok before
row_taken_if_known (Some sort) content before = row_taken sort content before

unfoldable pub row_walk : List Field → Option Kind → Option Row → Result (Option Row) Kind
row_walk [] None before = Ok before
row_walk [] (Some fault) before = Err fault
row_walk (f ∷ fs) fault before = row_taken_if_known (sort_of f.number) f.content before >>= λ after. row_walk fs fault after

-- a row's message, or the rest of one behind the row so far
unfoldable pub row_on : Option Row → List ℕ → Result (Option Row) Kind
row_on before bytes = row_walk (fields bytes).items (fields bytes).fault before

-- a row's message; one without a kind is refused
unfoldable pub row : List ℕ → Result Row Kind
row bytes = row_on None bytes >>= λ r. some_or r EmptyRow
