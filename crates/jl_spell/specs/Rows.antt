-- Terms and rows as bytes (Jelly RDF serialization, "RdfStreamRow" and the messages in it): what each message's known
-- fields hold, in the order of its table.
use Rattle.std.specs.Prelude.{◌≡◌, ℕ, zero, suc, ◌^◌, ◌<◌, Bool, true, false, IsTrue, List, [], ◌∷◌, ◌++◌, Option, Some, None}
use Rattle.std.specs.Str.{is_utf8}
use Rattle.jl_rows.specs.declared.message.Message.{Message}
use Rattle.jl_rows.specs.declared.row.Table.{Table}
use Rattle.jl_rows.specs.Written.{Ids, Ending, Term, StreamOptions, Row}
use Rattle.jl_spell.specs.Fields.{Held, Number, Bytes, field_of}
use Rattle.jl_spell.specs.Messages.{message_of}

abbrev pub number : ℕ → Option Held
number n = Some (Number n)

abbrev pub bytes : List ℕ → Option Held
bytes t = Some (Bytes t)

-- true is 1
abbrev pub bit : Bool → ℕ
bit true = 1
bit false = 0

abbrev pub iri_of : Ids → List ℕ
iri_of i = message_of Message.Iri (number i.prefix ∷ number i.name ∷ [])

-- the tag and the datatype of a literal
abbrev pub ending : Ending → List (Option Held)
ending Ending.Simple = None ∷ None ∷ []
ending (Ending.Lang tag) = bytes tag ∷ None ∷ []
ending (Ending.Typed id) = None ∷ number id ∷ []

abbrev pub literal_of : List ℕ → Ending → List ℕ
literal_of lex e = message_of Message.Literal (bytes lex ∷ ending e)

-- the four fields of a position: an IRI, a blank node's label, a literal, a triple term
abbrev pub position : Term → List (Option Held)
position Term.Unset = None ∷ None ∷ None ∷ None ∷ []
position (Term.Iri i) = bytes (iri_of i) ∷ None ∷ None ∷ None ∷ []
position (Term.Bnode label) = None ∷ bytes label ∷ None ∷ None ∷ []
position (Term.Literal lex e) = None ∷ None ∷ bytes (literal_of lex e) ∷ None ∷ []
position (Term.Nested s p o) = None ∷ None ∷ None ∷ bytes (message_of Message.Triple (position s ++ (position p ++ position o))) ∷ []
position Term.Default = None ∷ None ∷ None ∷ None ∷ []
position (Term.Refused kind) = None ∷ None ∷ None ∷ None ∷ []

-- the four of a graph: an IRI, a blank node's label, the default graph, a literal
abbrev pub graph : Term → List (Option Held)
graph (Term.Iri i) = bytes (iri_of i) ∷ None ∷ None ∷ None ∷ []
graph (Term.Bnode label) = None ∷ bytes label ∷ None ∷ None ∷ []
graph Term.Default = None ∷ None ∷ bytes (message_of Message.Empty []) ∷ None ∷ []
graph (Term.Literal lex e) = None ∷ None ∷ None ∷ bytes (literal_of lex e) ∷ []
graph _ = None ∷ None ∷ None ∷ None ∷ []

abbrev pub positions : Term → Term → Term → List (Option Held)
positions s p o = position s ++ (position p ++ position o)

abbrev pub options : StreamOptions → List (Option Held)
options o =
    bytes o.stream_name ∷ number o.physical ∷ number (bit o.generalized) ∷ number (bit o.star) ∷ number o.names ∷ number o.prefixes ∷
    number o.datatypes ∷ number o.logical ∷ number o.version ∷ []

-- an IRI, where one stands
abbrev pub maybe_iri : Option Ids → Option Held
maybe_iri None = None
maybe_iri (Some i) = bytes (iri_of i)

abbrev pub entry_number : Table → ℕ
entry_number Table.Name = 9
entry_number Table.Prefix = 10
entry_number Table.Datatype = 11

-- a row: its message, in the field that says of which kind it is
unfoldable pub row_of : Row → List ℕ
row_of (Row.Options o) = field_of 1 (Bytes (message_of Message.Options (options o)))
row_of (Row.Triple s p o) = field_of 2 (Bytes (message_of Message.Triple (positions s p o)))
row_of (Row.Quad s p o g) = field_of 3 (Bytes (message_of Message.Quad (position s ++ (position p ++ (position o ++ graph g)))))
row_of (Row.GraphStart g) = field_of 4 (Bytes (message_of Message.GraphStart (graph g)))
row_of Row.GraphEnd = field_of 5 (Bytes (message_of Message.Empty []))
row_of (Row.Namespace name i) = field_of 6 (Bytes (message_of Message.Namespace (bytes name ∷ maybe_iri i ∷ [])))
row_of (Row.Entry t id text) = field_of (entry_number t) (Bytes (message_of Message.Entry (number id ∷ bytes text ∷ [])))

-- What a row can have: texts in UTF-8, numbers below 2^32, triple terms at most so deep, and the default graph only as a
-- graph, where no triple term stands.
abbrev pub IsText : List ℕ → Type 0
IsText t = IsTrue (is_utf8 t)

abbrev pub AreIds : Ids → Type 0
AreIds i = (i.prefix < 2 ^ 32) × (i.name < 2 ^ 32)

abbrev pub IsEnding : Ending → Type 0
IsEnding Ending.Simple = Unit {0}
IsEnding (Ending.Lang tag) = IsText tag
IsEnding (Ending.Typed id) = id < 2 ^ 32

abbrev pub IsTerm : ℕ → Term → Type 0
IsTerm depth Term.Unset = Unit {0}
IsTerm depth (Term.Iri i) = AreIds i
IsTerm depth (Term.Bnode label) = IsText label
IsTerm depth (Term.Literal lex e) = IsText lex × IsEnding e
IsTerm zero (Term.Nested s p o) = ⊥
IsTerm (suc depth) (Term.Nested s p o) = IsTerm depth s × IsTerm depth p × IsTerm depth o
IsTerm depth Term.Default = ⊥
IsTerm depth (Term.Refused kind) = ⊥

abbrev pub IsGraph : Term → Type 0
IsGraph Term.Unset = Unit {0}
IsGraph (Term.Iri i) = AreIds i
IsGraph (Term.Bnode label) = IsText label
IsGraph (Term.Literal lex e) = IsText lex × IsEnding e
IsGraph (Term.Nested s p o) = ⊥
IsGraph Term.Default = Unit {0}
IsGraph (Term.Refused kind) = ⊥

pub record AreOptions (o : StreamOptions) : Type 0 where
  pub stream_name : IsText o.stream_name
  pub physical : o.physical < 2 ^ 32
  pub names : o.names < 2 ^ 32
  pub prefixes : o.prefixes < 2 ^ 32
  pub datatypes : o.datatypes < 2 ^ 32
  pub logical : o.logical < 2 ^ 32
  pub version : o.version < 2 ^ 32
  -- which no message says
  pub not_strict : o.strict ≡ false

abbrev pub AreMaybeIds : Option Ids → Type 0
AreMaybeIds None = Unit {0}
AreMaybeIds (Some i) = AreIds i

abbrev pub IsRow : Row → Type 0
IsRow (Row.Options o) = AreOptions o
IsRow (Row.Triple s p o) = IsTerm 32 s × IsTerm 32 p × IsTerm 32 o
IsRow (Row.Quad s p o g) = IsTerm 32 s × IsTerm 32 p × IsTerm 32 o × IsGraph g
IsRow (Row.GraphStart g) = IsGraph g
IsRow Row.GraphEnd = Unit {0}
IsRow (Row.Namespace name i) = IsText name × AreMaybeIds i
IsRow (Row.Entry t id text) = (id < 2 ^ 32) × IsText text
