-- What the code's rows and parts stand for: their texts in place of where these lie.
use Rattle.std.specs.Prelude.{◌≡◌, ℕ, ◌-◌, ◌<◌, ◌≤◌, List, [], map, length, slice_index_or, slice_range, Option, Some, None, is_some, Result, Ok, Err, false}
use Rattle.std.specs.Option.{option_map}
use Rattle.jl_base.specs.Spans.{text_of, IsInside}
use Rattle.jl_base.specs.declared.place.Span.{Span}
use Rattle.jl_base.specs.declared.kind.Kind.{Kind}
use Rattle.jl_base.specs.Results.{◌>>=◌, refuse_if, with_front}
use Rattle.jl_base.specs.declared.kind.Kind.TheVariants.{WrongWire, Twice}
use Rattle.jl_wire.specs.Seen.{content_seen}
use Rattle.jl_rows.specs.declared.message.Known.{Known}
use Rattle.jl_wire.specs.declared.field.Value.{Value}
use Rattle.jl_wire.specs.declared.field.Value.TheVariants as values
use Rattle.jl_rows.specs.declared.message.Message.{Message}
use Rattle.jl_rows.specs.declared.message.Shape.{Shape}
use Rattle.jl_rows.specs.declared.options.Options.{Options}
use Rattle.jl_rows.specs.declared.options.Physical.{Physical}
use Rattle.jl_rows.specs.declared.options.Physical.TheVariants as physicals
use Rattle.jl_rows.specs.declared.row.RawIri.{RawIri}
use Rattle.jl_rows.specs.declared.row.RawTail.{RawTail}
use Rattle.jl_rows.specs.declared.row.RawTail.TheVariants as tails
use Rattle.jl_rows.specs.declared.row.RawTerm.{RawTerm}
use Rattle.jl_rows.specs.declared.row.RawTerm.TheVariants as terms
use Rattle.jl_rows.specs.declared.row.RawTriple.{RawTriple}
use Rattle.jl_rows.specs.declared.row.Row.{Row}
use Rattle.jl_rows.specs.declared.row.Row.TheVariants as rows
use Rattle.jl_rows.specs.declared.parts.Found.{Found}
use Rattle.jl_rows.specs.declared.parts.Part.{Part}
use Rattle.jl_rows.specs.declared.parts.Part.TheVariants as parts
use Rattle.jl_rows.specs.Written as written
use Rattle.jl_rows.specs.Reading as reading
use Rattle.jl_rows.specs.Files as files
use Rattle.jl_rows.specs.Reading.{content_said}
use Rattle.jl_rows.specs.Messages.{groups}

abbrev pub ids_seen : RawIri → written.Ids
ids_seen i = record { prefix = i.prefix; name = i.name }

abbrev pub ending_seen : List ℕ → RawTail → written.Ending
ending_seen bytes tails.Simple = written.Simple
ending_seen bytes (tails.Lang span) = written.Lang (text_of bytes span)
ending_seen bytes (tails.Typed id) = written.Typed id

-- what a message says, or nothing where it can't be read
abbrev pub parts_or_none : Result reading.Parts Kind → reading.Parts
parts_or_none (Ok ps) = ps
parts_or_none (Err k) = reading.nothing_said

-- the triple term that these bytes say; in it 31 more may stand one in another
abbrev pub nested_at : List ℕ → written.Term
nested_at text = reading.nested (parts_or_none (reading.read (content_said 31) Message.Triple text))

-- A triple term that was read whole, wherever it stands, is read again without a fault, and says the same.
abbrev pub ReadsAgain : Type 0
ReadsAgain = (depth : ℕ) (text : List ℕ) (ps : reading.Parts) → depth ≤ 31 → reading.read (content_said depth) Message.Triple text ≡ Ok ps
    → (reading.read (content_said 31) Message.Triple text ≡ Ok ps) × (reading.nested ps ≡ nested_at text)

abbrev pub term_seen : List ℕ → RawTerm → written.Term
term_seen bytes (terms.Iri i) = written.Iri (ids_seen i)
term_seen bytes (terms.Bnode span) = written.Bnode (text_of bytes span)
term_seen bytes (terms.Literal lex tail) = written.Literal (text_of bytes lex) (ending_seen bytes tail)
term_seen bytes (terms.Triple span) = nested_at (text_of bytes span)
term_seen bytes terms.Default = written.Default

-- a position of a row
abbrev pub position_seen : List ℕ → Option RawTerm → written.Term
position_seen bytes None = written.Unset
position_seen bytes (Some t) = term_seen bytes t

-- a triple term's three
abbrev pub nested_seen : List ℕ → RawTriple → written.Term
nested_seen bytes t = written.Nested (position_seen bytes t.s) (position_seen bytes t.p) (position_seen bytes t.o)

abbrev pub options_seen : List ℕ → Options → written.StreamOptions
options_seen bytes o = record {
  stream_name = text_of bytes o.stream_name;
  physical = o.physical;
  generalized = o.generalized;
  star = o.star;
  names = o.names;
  prefixes = o.prefixes;
  datatypes = o.datatypes;
  logical = o.logical;
  version = o.version;
  strict = o.strict;
}

-- a physical type's number
abbrev pub number_of : Physical → ℕ
number_of physicals.Triples = 1
number_of physicals.Quads = 2
number_of physicals.Graphs = 3

-- the physical type is one of the three
abbrev pub HasForm : Options → Type 0
HasForm o = (0 < o.physical) × (o.physical ≤ 3)

abbrev pub row_seen : List ℕ → Row → written.Row
row_seen bytes (rows.Options o) = written.Options (options_seen bytes o)
row_seen bytes (rows.Triple t) = written.Triple (position_seen bytes t.s) (position_seen bytes t.p) (position_seen bytes t.o)
row_seen bytes (rows.Quad t) = written.Quad (position_seen bytes t.s) (position_seen bytes t.p) (position_seen bytes t.o) (position_seen bytes t.g)
row_seen bytes (rows.GraphStart g) = written.GraphStart (position_seen bytes g)
row_seen bytes rows.GraphEnd = written.GraphEnd
row_seen bytes (rows.Namespace name iri) = written.Namespace (text_of bytes name) (option_map ids_seen iri)
row_seen bytes (rows.Entry table id text) = written.Entry table id (text_of bytes text)

abbrev pub part_seen : List ℕ → Part → reading.Part
part_seen bytes (parts.Number n) = reading.Number n
part_seen bytes (parts.Text span) = reading.Text (text_of bytes span)
part_seen bytes (parts.Said t) = reading.Said (term_seen bytes t)

abbrev pub maybe_seen : List ℕ → Option Part → Option reading.Part
maybe_seen bytes p = option_map (part_seen bytes) p

abbrev pub parts_seen : List ℕ → List (Option Part) → reading.Parts
parts_seen bytes ps = map (maybe_seen bytes) ps

-- What the code knows of where texts lie: inside the bytes.
abbrev pub HasTail : List ℕ → RawTail → Type 0
HasTail bytes tails.Simple = Unit {0}
HasTail bytes (tails.Lang span) = IsInside bytes span
HasTail bytes (tails.Typed id) = Unit {0}

abbrev pub HasTerm : List ℕ → RawTerm → Type 0
HasTerm bytes (terms.Iri i) = Unit {0}
HasTerm bytes (terms.Bnode span) = IsInside bytes span
HasTerm bytes (terms.Literal lex tail) = IsInside bytes lex × HasTail bytes tail
HasTerm bytes (terms.Triple span) = IsInside bytes span
HasTerm bytes terms.Default = Unit {0}

abbrev pub HasPosition : List ℕ → Option RawTerm → Type 0
HasPosition bytes None = Unit {0}
HasPosition bytes (Some t) = HasTerm bytes t

abbrev pub HasTriple : List ℕ → RawTriple → Type 0
HasTriple bytes t = HasPosition bytes t.s × HasPosition bytes t.p × HasPosition bytes t.o

abbrev pub HasRow : List ℕ → Row → Type 0
HasRow bytes (rows.Options o) = IsInside bytes o.stream_name
HasRow bytes (rows.Triple t) = HasTriple bytes t
HasRow bytes (rows.Quad t) = HasPosition bytes t.s × HasPosition bytes t.p × HasPosition bytes t.o × HasPosition bytes t.g
HasRow bytes (rows.GraphStart g) = HasPosition bytes g
HasRow bytes rows.GraphEnd = Unit {0}
HasRow bytes (rows.Namespace name iri) = IsInside bytes name
HasRow bytes (rows.Entry table id text) = IsInside bytes text

abbrev pub HasValue : List ℕ → Value → Type 0
HasValue bytes (values.Bytes span) = IsInside bytes span
HasValue bytes _ = Unit {0}

abbrev pub HasPart : List ℕ → Part → Type 0
HasPart bytes (parts.Number n) = Unit {0}
HasPart bytes (parts.Text span) = IsInside bytes span
HasPart bytes (parts.Said t) = HasTerm bytes t

abbrev pub HasMaybe : List ℕ → Option Part → Type 0
HasMaybe bytes None = Unit {0}
HasMaybe bytes (Some p) = HasPart bytes p

-- What a reader of parts knows of the groups: as many as there may be, each inside the bytes.
pub record HasParts (bytes : List ℕ) (ps : List (Option Part)) : Type 0 where
  pub count : length ps ≡ groups
  pub each : (g : ℕ) → HasMaybe bytes (slice_index_or ps g None)

-- what was found in a message, and that its texts are inside the bytes
abbrev pub found_seen : Found → reading.Parts
found_seen f = parts_seen f.bytes.now f.parts

abbrev pub HasFound : Found → Type 0
HasFound f = HasParts f.bytes.now f.parts

-- A step on the groups answers what the definition says of them.
abbrev pub Takes : List ℕ → Result reading.Parts Kind → List (Option Part) → Result (Unit {0}) Kind → Type 0
Takes bytes said after (Ok _) = said ≡ Ok (parts_seen bytes after)
Takes bytes said after (Err k) = said ≡ Err k

-- The first two checks of a known field: its group, where both pass.
abbrev pub IsFree : List ℕ → Known → Value → List (Option Part) → Result ℕ Kind → Type 0
IsFree bytes k value ps (Ok group) = (reading.is_wrong_wire k.shape (content_seen bytes value) ≡ false) × (is_some (reading.part (parts_seen bytes ps) k.group) ≡ false) × (group ≡ k.group)
IsFree bytes k value ps (Err kind) = (do
  _ ← refuse_if (reading.is_wrong_wire k.shape (content_seen bytes value)) WrongWire
  refuse_if (is_some (reading.part (parts_seen bytes ps) k.group)) Twice) ≡ Err kind

-- where a triple term's message lies, where the field is one
abbrev pub nested_span : Shape → Value → Option Span
nested_span Shape.Nested (values.Bytes span) = Some span
nested_span _ _ = None

-- A step on a row answers what the definition says of it.
abbrev pub TakesRow : List ℕ → Result (Option written.Row) Kind → Option Row → Result (Unit {0}) Kind → Type 0
TakesRow bytes said after (Ok _) = said ≡ Ok (option_map (row_seen bytes) after)
TakesRow bytes said after (Err k) = said ≡ Err k

abbrev pub HasMaybeRow : List ℕ → Option Row → Type 0
HasMaybeRow bytes None = Unit {0}
HasMaybeRow bytes (Some r) = HasRow bytes r

-- What a reader of a frame answers at a place of it: the next row and the place behind it, no row and no fault up to the
-- end, or the fault that comes before any row.
abbrev pub IsNextRow : List ℕ → ℕ → ℕ → Result (Option (Row × ℕ)) Kind → Type 0
IsNextRow bytes at end (Ok (Some r)) = files.rows (slice_range bytes at end) ≡ with_front (row_seen bytes r.0) (files.rows (slice_range bytes r.1 end))
IsNextRow bytes at end (Ok None) = files.rows (slice_range bytes at end) ≡ record { items = []; fault = None }
IsNextRow bytes at end (Err k) = files.rows (slice_range bytes at end) ≡ record { items = []; fault = Some k }

-- a row that was read at a place of a frame
abbrev pub IsRowWithin : List ℕ → ℕ → ℕ → Row × ℕ → Type 0
IsRowWithin bytes at end r = (at < r.1) × (r.1 ≤ end) × HasRow bytes r.0

-- What a reader of a file answers at a place of it: nothing more exactly at the end, the next frame's body, or the fault
-- of what stands there in place of a frame.
abbrev pub IsNextFrame : List ℕ → ℕ → ℕ → Result (Option (ℕ × ℕ)) Kind → Type 0
IsNextFrame bytes at end (Ok None) = at ≡ end
IsNextFrame bytes at end (Ok (Some f)) = files.frames (slice_range bytes at end) ≡ with_front (slice_range bytes f.0 f.1) (files.frames (slice_range bytes f.1 end))
IsNextFrame bytes at end (Err k) = files.frames (slice_range bytes at end) ≡ record { items = []; fault = Some k }

-- the same of the one frame that stands there
abbrev pub IsNextBody : List ℕ → ℕ → ℕ → Result (Option (ℕ × ℕ)) Kind → Type 0
IsNextBody bytes at end (Ok None) = Unit {0}
IsNextBody bytes at end (Ok (Some f)) = files.body (slice_range bytes at end) ≡ Ok (slice_range bytes f.0 f.1, f.1 - at)
IsNextBody bytes at end (Err k) = files.body (slice_range bytes at end) ≡ Err k

-- where a frame's body begins and ends, whose length stands at a place of the file
abbrev pub IsFrameWithin : ℕ → ℕ → ℕ × ℕ → Type 0
IsFrameWithin at end f = (at < f.0) × (f.0 ≤ f.1) × (f.1 ≤ end)
