-- Reading a message, from front to back, with the first fault that is met (Protocol Buffers, Encoding; rdf.proto). A
-- field's checks come in this order: its tag and value, its wire type, that its group didn't stand before, its content.
use Rattle.std.specs.Prelude.{ℕ, zero, suc, ◌%◌, ◌^◌, Bool, true, false, ◌==◌, not, List, [], ◌∷◌, replicate, slice_index_or, slice_set, Option, Some, None, is_some, Result, Ok, Err, if◌then◌else◌}
use Rattle.std.specs.Str.{is_utf8}
use Rattle.jl_base.specs.Results.{◌>>=◌, refuse_if}
use Rattle.jl_base.specs.declared.kind.Kind.{Kind}
use Rattle.jl_base.specs.declared.kind.Kind.TheVariants.{WrongWire, Twice, BadUtf8, TooDeep}
use Rattle.jl_wire.specs.Fields.{Content, Field, fields}
use Rattle.jl_rows.specs.Written.{Ids, Ending, Term}
use Rattle.jl_rows.specs.Messages.{known_as, groups}
use Rattle.jl_rows.specs.declared.message.Message.{Message}
use Rattle.jl_rows.specs.declared.message.Shape.{Shape}
use Rattle.jl_rows.specs.declared.message.Known.{Known}

-- what a known field says
pub data Part : Type 0 where
  Number : ℕ → Part
  Text : List ℕ → Part
  Said : Term → Part

-- what the groups of a message said so far
abbrev pub Parts : Type 0
Parts = List (Option Part)

abbrev pub part : Parts → ℕ → Option Part
part ps group = slice_index_or ps group None

-- the low 32 bits of a number, or 0 where none stands
abbrev pub number_32 : Option Part → ℕ
number_32 (Some (Part.Number n)) = n % 2 ^ 32
number_32 _ = 0

-- a number that isn't 0
abbrev pub flag : Option Part → Bool
flag (Some (Part.Number n)) = not (n == 0)
flag _ = false

-- a text, or the empty one where none stands
abbrev pub text : Option Part → List ℕ
text (Some (Part.Text t)) = t
text _ = []

-- a term, or none
abbrev pub term : Option Part → Term
term (Some (Part.Said t)) = t
term _ = Term.Unset

-- an IRI's ids, where an IRI stands
abbrev pub ids : Option Part → Option Ids
ids (Some (Part.Said (Term.Iri i))) = Some i
ids _ = None

-- the end of a literal: its tag, its datatype, or neither
abbrev pub ending : Option Part → Ending
ending (Some (Part.Text t)) = Ending.Lang t
ending (Some (Part.Number n)) = Ending.Typed (n % 2 ^ 32)
ending _ = Ending.Simple

-- the content has another wire type than the shape's
abbrev pub is_wrong_wire : Shape → Content → Bool
is_wrong_wire Shape.Number (Content.Number n) = false
is_wrong_wire Shape.Number _ = true
is_wrong_wire _ (Content.Bytes t) = false
is_wrong_wire _ _ = true

-- one known field: its wire type, its group, and what it says
abbrev pub taken : (Shape → Content → Result Part Kind) → Known → Content → Parts → Result Parts Kind
taken says k content ps = do
  _ ← refuse_if (is_wrong_wire k.shape content) WrongWire
  _ ← refuse_if (is_some (part ps k.group)) Twice
  said ← says k.shape content
  Ok (slice_set ps k.group (Some said))

-- a field that isn't known is skipped
abbrev pub taken_if_known : (Shape → Content → Result Part Kind) → Option Known → Content → Parts → Result Parts Kind
taken_if_known says None content ps = Ok ps
taken_if_known says (Some k) content ps = taken says k content ps

-- the fields of a message in their order, and then the fault that ends them, where one does
unfoldable pub walk : (Shape → Content → Result Part Kind) → Message → List Field → Option Kind → Parts → Result Parts Kind
walk says m [] None ps = Ok ps
walk says m [] (Some fault) ps = Err fault
walk says m (f ∷ fs) fault ps = taken_if_known says (known_as m f.number) f.content ps >>= λ qs. walk says m fs fault qs

abbrev pub nothing_said : Parts
nothing_said = replicate groups None

-- a message, or the rest of one behind what its groups said so far
unfoldable pub read_on : (Shape → Content → Result Part Kind) → Message → Parts → List ℕ → Result Parts Kind
read_on says m ps bytes = walk says m (fields bytes).items (fields bytes).fault ps

abbrev pub read : (Shape → Content → Result Part Kind) → Message → List ℕ → Result Parts Kind
read says m bytes = read_on says m nothing_said bytes

-- a string is UTF-8
abbrev pub string : List ℕ → Result (List ℕ) Kind
string t = if is_utf8 t then Ok t else Err BadUtf8

-- the content of a number or a text; no other shape stands in the messages that are read so
abbrev pub plain : Shape → Content → Result Part Kind
plain Shape.Number (Content.Number n) = Ok (Part.Number n)
plain Shape.Text (Content.Bytes t) = string t >>= λ s. Ok (Part.Text s)
plain _ _ = Err WrongWire

unfoldable pub iri : List ℕ → Result Ids Kind
iri bytes = read plain Message.Iri bytes >>= λ ps. Ok (record { prefix = number_32 (part ps 0); name = number_32 (part ps 1) })

unfoldable pub literal : List ℕ → Result Term Kind
literal bytes = read plain Message.Literal bytes >>= λ ps. Ok (Term.Literal (text (part ps 0)) (ending (part ps 1)))

-- a message without known fields
unfoldable pub empty : List ℕ → Result Term Kind
empty bytes = read plain Message.Empty bytes >>= λ ps. Ok Term.Default

-- the content of a number, a text, or a term that isn't a triple term
abbrev pub shallow : Shape → Content → Result Part Kind
shallow Shape.Iri (Content.Bytes t) = iri t >>= λ i. Ok (Part.Said (Term.Iri i))
shallow Shape.Label (Content.Bytes t) = string t >>= λ s. Ok (Part.Said (Term.Bnode s))
shallow Shape.Literal (Content.Bytes t) = literal t >>= λ l. Ok (Part.Said l)
shallow Shape.Default (Content.Bytes t) = empty t >>= λ d. Ok (Part.Said d)
shallow shape content = plain shape content

-- a triple term, by what its groups say
abbrev pub nested : Parts → Term
nested ps = Term.Nested (term (part ps 0)) (term (part ps 1)) (term (part ps 2))

-- The content of a known field, where so many triple terms may stand one in another.
unfoldable pub content_said : ℕ → Shape → Content → Result Part Kind
content_said zero Shape.Nested (Content.Bytes t) = Err TooDeep
content_said (suc depth) Shape.Nested (Content.Bytes t) = read (content_said depth) Message.Triple t >>= λ ps. Ok (Part.Said (nested ps))
content_said depth shape content = shallow shape content

-- triple terms stand at most 32 deep
abbrev pub most_nested : ℕ
most_nested = 32

-- a message of a row
unfoldable pub message : Message → List ℕ → Result Parts Kind
message m bytes = read (content_said most_nested) m bytes
