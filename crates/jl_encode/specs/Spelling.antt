-- The fields of a term as bytes, apart from the message that they stand in, and lengths up to a limit.
use Rattle.std.specs.Prelude.{◌≡◌, ℕ, ◌+◌, ◌^◌, ◌<◌, ◌≤◌, List, [], ◌++◌, length, max, Option, Some, None, Result, Ok, Err, nat_lt, if◌then◌else◌}
use Rattle.jl_encoding.specs.Limits.{most_item_bytes}
use Rattle.jl_base.specs.Terms.{Value}
use Rattle.jl_rows.specs.Written.{Ending, Term}
use Rattle.jl_spell.specs.Fields.{Number, Bytes, front_of, field_of}
use Rattle.jl_spell.specs.Rows.{iri_of, literal_of}
use Rattle.jl_encode.specs.declared.refusal.Refusal.{Refusal}
use Rattle.jl_encode.specs.declared.refusal.Refusal.TheVariants.{TooWide, NoMemory}

-- a length, unless it is above the limit
abbrev pub limited : ℕ → Option ℕ
limited n = if nat_lt most_item_bytes n then None else Some n

-- the length of two stretches
abbrev pub joint : Option ℕ → Option ℕ → Option ℕ
joint None y = None
joint (Some a) None = None
joint (Some a) (Some b) = limited (a + b)

-- the length of a field that holds so many bytes
abbrev pub in_field : ℕ → Option ℕ → Option ℕ
in_field number None = None
in_field number (Some n) = limited (length (front_of number n) + n)

-- the end of a literal
abbrev pub ending_bytes : Ending → List ℕ
ending_bytes Ending.Simple = []
ending_bytes (Ending.Lang tag) = field_of 2 (Bytes tag)
ending_bytes (Ending.Typed id) = field_of 3 (Number id)

-- the fields of a position, which come behind the field of the number base
abbrev pub term_bytes : ℕ → Term → List ℕ
term_bytes base Term.Unset = []
term_bytes base (Term.Iri i) = field_of (base + 1) (Bytes (iri_of i))
term_bytes base (Term.Bnode label) = field_of (base + 2) (Bytes label)
term_bytes base (Term.Literal lex e) = field_of (base + 3) (Bytes (literal_of lex e))
term_bytes base (Term.Nested s p o) = field_of (base + 4) (Bytes (term_bytes 0 s ++ (term_bytes 4 p ++ term_bytes 8 o)))
term_bytes base Term.Default = []
term_bytes base (Term.Refused kind) = []

-- a subject, a predicate and an object
abbrev pub three_bytes : Term → Term → Term → List ℕ
three_bytes s p o = term_bytes 0 s ++ (term_bytes 4 p ++ term_bytes 8 o)

-- the fields of a quad's graph
abbrev pub graph_bytes : Term → List ℕ
graph_bytes Term.Unset = []
graph_bytes (Term.Iri i) = field_of 13 (Bytes (iri_of i))
graph_bytes (Term.Bnode label) = field_of 14 (Bytes label)
graph_bytes Term.Default = field_of 15 (Bytes [])
graph_bytes (Term.Literal lex e) = field_of 16 (Bytes (literal_of lex e))
graph_bytes (Term.Nested s p o) = []
graph_bytes (Term.Refused kind) = []

-- how deep a term nests
abbrev pub depth : Value → ℕ
depth (Value.Iri text) = 0
depth (Value.Bnode label) = 0
depth (Value.Literal lex tail) = 0
depth (Value.Nested s p o) = max (depth s) (max (depth p) (depth o)) + 1
depth Value.Default = 0

-- a row, as its message in the field that says of which kind it is
abbrev pub row_bytes : ℕ → List ℕ → List ℕ
row_bytes number message = field_of 1 (Bytes (field_of number (Bytes message)))

-- what stands before a row's message
abbrev pub fronts : ℕ → List ℕ → List ℕ
fronts number message = front_of 1 (length (field_of number (Bytes message))) ++ front_of number (length message)

-- What the writer of these answers, of a message of which it knows the length.
abbrev pub AddsFronts : {A : Type 0} → Result A Refusal → ℕ → List ℕ → List ℕ → List ℕ → Type 0
AddsFronts (Ok x) number old new message = (new ≡ old ++ fronts number message) × (length message ≤ most_item_bytes)
AddsFronts (Err TooWide) number old new message = most_item_bytes < length (row_bytes number message)
AddsFronts (Err NoMemory) number old new message = Unit {0}
