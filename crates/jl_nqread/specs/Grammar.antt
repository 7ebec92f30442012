-- The terms of a line (RDF 1.1 N-Quads, "Grammar"), on bytes that are UTF-8: so a byte from 128 on belongs to a character
-- from U+0080 on. Each part is the longest that stands there, from the left.
use Rattle.std.specs.Prelude.{ℕ, zero, suc, ◌+◌, ◌-◌, ◌*◌, Bool, false, not, ◌==◌, ◌&&◌, ◌||◌, nat_lt, List, [], ◌∷◌, drop, Option, Some, None, codes, if◌then◌else◌}
use Rattle.std.specs.Char.{is_ascii_hexdigit, is_ascii_alphabetic, is_ascii_alphanumeric}
use Rattle.std.specs.List.{list_any}
use Rattle.jl_nqread.specs.Taking.{◌>>=◌, begun, starts, byte, twice, past, closed}

abbrev pub is_one_of : List ℕ → ℕ → Bool
is_one_of these b = list_any (λ c. b == c) these

-- spaces and tabs, or none
abbrev pub is_blank : ℕ → Bool
is_blank b = (b == 32) || (b == 9)

abbrev pub blanks : List ℕ → List ℕ
blanks text = past (starts is_blank) text

-- HEX ::= [0-9] | [A-F] | [a-f]
abbrev pub digit_value : ℕ → ℕ
digit_value b = if nat_lt b 58 then b - 48 else if nat_lt b 71 then b - 55 else b - 87

abbrev pub digit : List ℕ → Option ℕ
digit [] = None
digit (b ∷ rest) = if is_ascii_hexdigit b then Some (digit_value b) else None

-- the number that four or eight of them write, after so many bytes
unfoldable pub digit_at : ℕ → List ℕ → Option ℕ
digit_at k text = digit (drop k text)

unfoldable pub four_digits : ℕ → List ℕ → Option ℕ
four_digits k text = do
  a ← digit_at k text
  b ← digit_at (k + 1) text
  c ← digit_at (k + 2) text
  d ← digit_at (k + 3) text
  Some (4096 * a + 256 * b + 16 * c + d)

unfoldable pub eight_digits : List ℕ → Option ℕ
eight_digits text = do
  high ← four_digits 0 text
  low ← four_digits 4 text
  Some (65536 * high + low)

-- a Unicode scalar value: no surrogate, and none above U+10FFFF
abbrev pub is_scalar : ℕ → Bool
is_scalar n = nat_lt n 0xD800 || (nat_lt 0xDFFF n && nat_lt n 0x110000)

abbrev pub sized : ℕ → ℕ → Option ℕ
sized n value = if is_scalar value then Some n else None

-- UCHAR ::= '\u' HEX HEX HEX HEX | '\U' HEX HEX HEX HEX HEX HEX HEX HEX, and its digits name a scalar value. This is how
-- many bytes it takes, from what stands after its backslash.
unfoldable pub uchar : List ℕ → Option ℕ
uchar [] = None
uchar (b ∷ rest) =
    if b == 117 then (four_digits 0 rest >>= sized 6)
    else if b == 85 then (eight_digits rest >>= sized 10)
    else None

-- how many bytes a character of an IRI takes: [^#x00-#x20<>"{}|^`\] | UCHAR
abbrev pub is_iri_byte : ℕ → Bool
is_iri_byte b = nat_lt 32 b && not (is_one_of (codes "<>\"{}|^`\\") b)

unfoldable pub iri_char : List ℕ → Option ℕ
iri_char [] = None
iri_char (b ∷ rest) = if b == 92 then uchar rest else if is_iri_byte b then Some 1 else None

-- IRIREF ::= '<' ([^#x00-#x20<>"{}|^`\] | UCHAR)* '>'
unfoldable pub iri : List ℕ → Option (List ℕ)
iri text = byte 60 text >>= closed iri_char 62 0

-- how many bytes a character of a string takes: [^#x22#x5C#xA#xD] | ECHAR | UCHAR
-- ECHAR ::= '\' [tbnrf"'\]
abbrev pub is_string_byte : ℕ → Bool
is_string_byte b = not (is_one_of (codes "\n\r\"\\") b)

unfoldable pub string_escape : List ℕ → Option ℕ
string_escape text = if starts (is_one_of (codes "tbnrf\"'\\")) text then Some 2 else uchar text

unfoldable pub string_char : List ℕ → Option ℕ
string_char [] = None
string_char (b ∷ rest) = if b == 92 then string_escape rest else if is_string_byte b then Some 1 else None

-- STRING_LITERAL_QUOTE ::= '"' ([^#x22#x5C#xA#xD] | ECHAR | UCHAR)* '"'
unfoldable pub string : List ℕ → Option (List ℕ)
string text = byte 34 text >>= closed string_char 34 0

-- LANGTAG ::= '@' [a-zA-Z]+ ('-' [a-zA-Z0-9]+)*. A hyphen belongs to it only where a letter or digit comes after it. This
-- is what stands after its '@'.
abbrev pub goes_on_tag : List ℕ → Bool
goes_on_tag [] = false
goes_on_tag (b ∷ rest) = is_ascii_alphanumeric b || ((b == 45) && starts is_ascii_alphanumeric rest)

unfoldable pub tag_groups : List ℕ → List ℕ
tag_groups text = if starts (λ b. b == 45) text then past goes_on_tag text else text

unfoldable pub tag : List ℕ → Option (List ℕ)
tag text = if starts is_ascii_alphabetic text then Some (tag_groups (past (starts is_ascii_alphabetic) text)) else None

-- literal ::= STRING_LITERAL_QUOTE ('^^' IRIREF | LANGTAG)?
unfoldable pub literal_tail : List ℕ → Option (List ℕ)
literal_tail text = begun (byte 64 text) tag (begun (twice 94 text) iri (Some text))

unfoldable pub literal : List ℕ → Option (List ℕ)
literal text = string text >>= literal_tail

-- BLANK_NODE_LABEL, in this project's own form: '_:' and the longest run of ASCII letters, digits, '_', '-', ':', '.' and
-- characters from U+0080 on, without the full stops that end the run. It begins with no hyphen and no full stop.
abbrev pub is_label_byte : ℕ → Bool
is_label_byte b = is_ascii_alphanumeric b || is_one_of (codes "_-:.") b || nat_lt 127 b

abbrev pub is_label_start : ℕ → Bool
is_label_start b = is_label_byte b && not (is_one_of (codes "-.") b)

-- what is left after the run, where left is what stands after its last byte so far that is no full stop
unfoldable pub label_end : List ℕ → List ℕ → List ℕ
label_end left [] = left
label_end left (b ∷ rest) = if is_label_byte b then label_end (if b == 46 then left else rest) rest else left

unfoldable pub label : List ℕ → Option (List ℕ)
label [] = None
label (b ∷ rest) = if is_label_start b then Some (label_end rest rest) else None

unfoldable pub blank_node : List ℕ → Option (List ℕ)
blank_node text = do
  a ← byte 95 text
  b ← byte 58 a
  label b

-- a term that is no triple term
unfoldable pub plain_term : List ℕ → Option (List ℕ)
plain_term text =
    if starts (λ b. b == 60) text then iri text
    else if starts (λ b. b == 34) text then literal text
    else blank_node text

-- Triple terms are this project's own: '<<', three terms with blanks or none around each, and '>>'. This is what stands
-- after the '<<'.
unfoldable pub three_terms : (List ℕ → Option (List ℕ)) → List ℕ → Option (List ℕ)
three_terms one text = do
  s ← one (blanks text)
  p ← one (blanks s)
  o ← one (blanks p)
  twice 62 (blanks o)

-- a term, with at most so many triple terms one in another
unfoldable pub term : ℕ → List ℕ → Option (List ℕ)
term zero text = plain_term text
term (suc depth) text = begun (twice 60 text) (three_terms (term depth)) (plain_term text)

abbrev pub most_nested : ℕ
most_nested = 32
