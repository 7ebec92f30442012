-- The lines of a file's items in N-Quads (RDF 1.1 N-Quads, section 4, whose grammar's rules are named here; triple terms
-- are RDF-star's). A text is its bytes. All that is written otherwise is ASCII, so a byte at a time is enough.
use Rattle.std.specs.Prelude.{ℕ, ◌/◌, ◌%◌, Bool, true, not, ◌&&◌, ◌||◌, ◌==◌, nat_lt, if◌then◌else◌, List, [], ◌∷◌, ◌++◌, codes}
use Rattle.std.specs.Char.{is_ascii_alphanumeric}
use Rattle.std.specs.Fmt.{digit_glyph}
use Rattle.std.specs.List.{list_any, flat_map, join_with_byte}
use Rattle.std.specs.Str.{bytes_eq}
use Rattle.jl_base.specs.Terms.{Tail, Simple, Lang, Typed, Value, Iri, Bnode, Literal, Nested, Default, Item, Triple, Quad, Namespace}

-- two upper case hexadecimal digits
abbrev pub hexadecimal : ℕ → List ℕ
hexadecimal b = digit_glyph true (b / 16) ∷ digit_glyph true (b % 16) ∷ []

-- UCHAR: `\u` and four hexadecimal digits
abbrev pub unicode_escape : ℕ → List ℕ
unicode_escape b = codes "\\u00" ++ hexadecimal b

-- IRIREF: '<' ([^#x00-#x20<>"{}|^`\] | UCHAR)* '>'
abbrev pub is_raw_in_iri : ℕ → Bool
is_raw_in_iri b = nat_lt 32 b && not (list_any (λ c. b == c) (codes "<>\"{}|^`\\"))

unfoldable pub iri_byte : ℕ → List ℕ
iri_byte b = if is_raw_in_iri b then b ∷ [] else unicode_escape b

-- what stands between `<` and `>`
abbrev pub iri_escaped : List ℕ → List ℕ
iri_escaped text = flat_map iri_byte text

-- STRING_LITERAL_QUOTE: '"' ([^#x22#x5C#xA#xD] | ECHAR | UCHAR)* '"'. Each byte that has an ECHAR is written by it, and
-- the other control characters of ASCII by a UCHAR.
unfoldable pub string_byte : ℕ → List ℕ
string_byte b =
    if b == 0x09 then codes "\\t"
    else if b == 0x08 then codes "\\b"
    else if b == 0x0A then codes "\\n"
    else if b == 0x0D then codes "\\r"
    else if b == 0x0C then codes "\\f"
    else if b == 0x22 then codes "\\\""
    else if b == 0x5C then codes "\\\\"
    else if nat_lt b 0x20 || (b == 0x7F) then unicode_escape b
    else b ∷ []

-- what stands between the quotes
abbrev pub string_escaped : List ℕ → List ℕ
string_escaped text = flat_map string_byte text

-- BLANK_NODE_LABEL has letters and digits, among others. `X`, with two hexadecimal digits behind it, stands for each byte
-- that is none of these, and for itself.
abbrev pub label_escape : ℕ → List ℕ
label_escape b = codes "X" ++ hexadecimal b

unfoldable pub label_byte : ℕ → List ℕ
label_byte b = if is_ascii_alphanumeric b && not (b == 0x58) then b ∷ [] else label_escape b

-- A label has at least one character: `X` alone is the empty one.
unfoldable pub label_written : List ℕ → List ℕ
label_written [] = codes "X"
label_written (b ∷ label) = flat_map label_byte (b ∷ label)

-- an IRI as a term
abbrev pub iri_text : List ℕ → List ℕ
iri_text iri = codes "<" ++ iri_escaped iri ++ codes ">"

-- a simple literal as a term
abbrev pub string_text : List ℕ → List ℕ
string_text lex = codes "\"" ++ string_escaped lex ++ codes "\""

-- the datatype of simple literals
abbrev pub xsd_string : List ℕ
xsd_string = codes "http://www.w3.org/2001/XMLSchema#string"

-- what follows a literal's string. A simple literal has the datatype xsd:string, so this one is left out.
unfoldable pub tail_text : Tail → List ℕ
tail_text Simple = []
tail_text (Lang tag) = codes "@" ++ tag
tail_text (Typed datatype) = if bytes_eq datatype xsd_string then [] else codes "^^" ++ iri_text datatype

-- texts with one space between each two
abbrev pub spaced : List (List ℕ) → List ℕ
spaced texts = join_with_byte 0x20 texts

-- A term that is the default graph has no text.
unfoldable pub term_text : Value → List ℕ
term_text (Iri iri) = iri_text iri
term_text (Bnode label) = codes "_:" ++ label_written label
term_text (Literal lex tail) = string_text lex ++ tail_text tail
term_text (Nested s p o) = codes "<< " ++ spaced (term_text s ∷ term_text p ∷ term_text o ∷ []) ++ codes " >>"
term_text Default = []

-- The default graph is left out.
unfoldable pub graph_texts : Value → List (List ℕ)
graph_texts Default = []
graph_texts (Iri iri) = term_text (Iri iri) ∷ []
graph_texts (Bnode label) = term_text (Bnode label) ∷ []
graph_texts (Literal lex tail) = term_text (Literal lex tail) ∷ []
graph_texts (Nested s p o) = term_text (Nested s p o) ∷ []

-- statement: subject predicate object graphLabel? '.'
abbrev pub statement : List (List ℕ) → List ℕ
statement texts = spaced texts ++ codes " .\n"

-- The name of a namespace stands in a comment, which reaches to the end of its line.
unfoldable pub line : Item → List ℕ
line (Triple s p o) = statement (term_text s ∷ term_text p ∷ term_text o ∷ [])
line (Quad s p o g) = statement (term_text s ∷ term_text p ∷ term_text o ∷ graph_texts g)
line (Namespace name iri) = codes "# prefix " ++ string_escaped name ++ codes " " ++ iri_text iri ++ codes "\n"

-- the lines of all items
abbrev pub text : List Item → List ℕ
text items = flat_map line items
