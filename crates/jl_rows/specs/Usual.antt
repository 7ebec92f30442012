-- What the parts of a reader of rows of usual shape answer. A place that is answered lies behind bytes which the reader
-- looked at; what it says holds of any range that reaches so far.
use Rattle.std.specs.Prelude.{◌≡◌, ℕ, ◌+◌, ◌-◌, ◌*◌, ◌^◌, ◌<◌, ◌≤◌, false, IfSome, List, length, slice_index, slice_range, slice_set, Option, Some, None, is_some, Result, Ok, Err}
use Rattle.std.specs.Option.{option_map}
use Rattle.jl_base.specs.Spans.{text_of}
use Rattle.jl_base.specs.declared.kind.Kind.{Kind}
use Rattle.jl_base.specs.declared.place.Span.{Span}
use Rattle.jl_wire.specs.Varint.{varint}
use Rattle.jl_wire.specs.Fields.{Content, field}
use Rattle.jl_rows.specs.Messages.{known, known_as, sort_of}
use Rattle.jl_rows.specs.Reading.{Part, Parts, part, ending, plain, read_on, content_said, most_nested}
use Rattle.jl_rows.specs.Written as written
use Rattle.jl_rows.specs.Rows.{said_by}
use Rattle.jl_rows.specs.Seen.{ending_seen, term_seen, row_seen, HasTail, HasPosition, HasRow}
use Rattle.jl_rows.specs.declared.message.Message.{Message}
use Rattle.jl_rows.specs.declared.message.Shape.{Shape}
use Rattle.jl_rows.specs.declared.message.Sort.{Sort}
use Rattle.jl_rows.specs.declared.row.RawTail.{RawTail}
use Rattle.jl_rows.specs.declared.row.RawTerm.{RawTerm}
use Rattle.jl_rows.specs.declared.row.Row.{Row}
use Rattle.jl_rows.specs.declared.row.Table.{Table}

-- a varint of at most three bytes in front, and the place after it
pub record IsShort (bytes : List ℕ) (at : ℕ) (found : ℕ × ℕ) : Type 0 where
  pub after : at < found.1
  pub before : found.1 ≤ at + 3
  pub small : found.0 < 2 ^ 21
  pub exact : (end : ℕ) → found.1 ≤ end → end ≤ length bytes → varint (slice_range bytes at end) ≡ Ok (found.0, found.1 - at)

-- a field of bytes in front, where the byte there is the tag of a field number below 16: where its bytes lie
pub record IsCounted (bytes : List ℕ) (at end : ℕ) (span : Span) : Type 0 where
  pub after : at + 1 < span.at
  pub before : span.at + span.len ≤ end
  pub exact : (number : ℕ) → 0 < number → number < 16 → slice_index bytes at ≡ number * 8 + 2
      → field (slice_range bytes at end) ≡ Ok (record { number = number; content = Content.Bytes (text_of bytes span); size = span.at + span.len - at })

-- what the groups of a message say, with one more that says something, or not
abbrev pub with_part : Parts → ℕ → Option Part → Parts
with_part ps group None = ps
with_part ps group (Some p) = slice_set ps group (Some p)

abbrev pub Says : Type 0
Says = Shape → Content → Result Part Kind

-- What a message says from one place on, behind some groups, is what it says from another place on, behind others.
abbrev pub ComesOn : Says → Message → List ℕ → ℕ → ℕ → ℕ → Parts → Parts → Type 0
ComesOn says m bytes at next end ps qs = read_on says m ps (slice_range bytes at end) ≡ read_on says m qs (slice_range bytes next end)

-- the number in front, where the field of this number stands there, and the place after it
pub record IsNumber (bytes : List ℕ) (at number : ℕ) (found : Option ℕ × ℕ) : Type 0 where
  pub after : at ≤ found.1
  pub before : found.1 ≤ at + 4
  pub small : IfSome found.0 (λ n. n < 2 ^ 32)
  pub exact : (says : Says) (m : Message) (group end : ℕ) (ps : Parts) → ((n : ℕ) → says Shape.Number (Content.Number n) ≡ Ok (Part.Number n))
      → known_as m number ≡ Some (known number Shape.Number group) → is_some (part ps group) ≡ false → found.1 ≤ end → end ≤ length bytes
      → ComesOn says m bytes at found.1 end ps (with_part ps group (option_map (λ n. Part.Number n) found.0))

-- the end of a literal, from a place behind its lexical form on
pub record IsEnding (bytes : List ℕ) (at end : ℕ) (tail : RawTail) : Type 0 where
  pub said : Option Part
  pub says : ending said ≡ ending_seen bytes tail
  pub inside : HasTail bytes tail
  pub exact : (ps : Parts) → is_some (part ps 1) ≡ false → ComesOn plain Message.Literal bytes at end end ps (with_part ps 1 said)

-- the messages that have a position: a subject, a predicate and an object, and a quad's graph
abbrev pub Stands : Message → ℕ → Type 0
Stands Message.Triple group = group < 3
Stands Message.Quad group = group < 4
Stands _ group = ⊥

-- the term in front, where one stands there at this position, and the place after it
pub record IsPosition (bytes : List ℕ) (at end group : ℕ) (found : Option RawTerm × ℕ) : Type 0 where
  pub after : at ≤ found.1
  pub before : found.1 ≤ end
  pub inside : HasPosition bytes found.0
  pub exact : (m : Message) (ps : Parts) → Stands m group → is_some (part ps group) ≡ false
      → ComesOn (content_said most_nested) m bytes at found.1 end ps (with_part ps group (option_map (λ t. Part.Said (term_seen bytes t)) found.0))

-- a row that its message says
abbrev pub IsRowOf : List ℕ → Result written.Row Kind → Row → Type 0
IsRowOf bytes said row = (said ≡ Ok (row_seen bytes row)) × HasRow bytes row

-- the table of an entry, by the tag of its field
abbrev pub IsTableOf : ℕ → Table → Type 0
IsTableOf tag Table.Name = tag ≡ 9 * 8 + 2
IsTableOf tag Table.Prefix = tag ≡ 10 * 8 + 2
IsTableOf tag Table.Datatype = tag ≡ 11 * 8 + 2

-- what the field of a row says, by its tag
pub record IsKind (bytes : List ℕ) (tag : ℕ) (text : List ℕ) (row : Row) : Type 0 where
  pub number : ℕ
  pub above : 0 < number
  pub below : number < 16
  pub sort : Sort
  pub tag_is : tag ≡ number * 8 + 2
  pub sort_is : sort_of number ≡ Some sort
  pub said : IsRowOf bytes (said_by sort text) row

-- a row that was put in its place, and the place behind it
abbrev pub written_row : Row → Result (Option ℕ) Kind → Result (Option (Row × ℕ)) Kind
written_row row (Ok (Some next)) = Ok (Some (row, next))
written_row row (Ok None) = Ok None
written_row row (Err k) = Err k
