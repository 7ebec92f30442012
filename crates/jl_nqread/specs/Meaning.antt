-- What a statement says: its item, whose texts have each escape replaced by its character (RDF 1.1 N-Quads, "Grammar").
use Rattle.std.specs.Prelude.{ℕ, zero, suc, ◌-◌, Bool, not, ◌==◌, List, [], ◌∷◌, ◌++◌, length, take, drop, Option, Some, None, if◌then◌else◌}
use Rattle.std.specs.Char.{encode_utf8}
use Rattle.jl_base.specs.Terms.{Value, Iri, Bnode, Literal, Nested, Tail, Simple, Lang, Typed, Item, Triple, Quad}
use Rattle.jl_nqread.specs.Taking.{begun, starts, byte, twice}
use Rattle.jl_nqread.specs.Grammar.{is_scalar, four_digits, eight_digits, blanks, iri, string, tag, blank_node, plain_term, term, most_nested}

-- what is left after a part that stands there
abbrev pub left : Option (List ℕ) → List ℕ
left None = []
left (Some rest) = rest

-- a part, by what is left after it
abbrev pub part : List ℕ → List ℕ → List ℕ
part text rest = take (length text - length rest) text

-- what stands between a part's first byte and its last one
abbrev pub enclosed : List ℕ → List ℕ → List ℕ
enclosed text rest = take (length text - length rest - 2) (drop 1 text)

-- the character of a number, in UTF-8
abbrev pub scalar : ℕ → List ℕ
scalar n = if is_scalar n then encode_utf8 n else []

unfoldable pub character : Option ℕ → List ℕ
character None = []
character (Some n) = scalar n

-- ECHAR: the character of a letter after a backslash
abbrev pub short_escape : ℕ → ℕ
short_escape b =
    if b == 116 then 9 else if b == 98 then 8 else if b == 110 then 10 else if b == 114 then 13 else if b == 102 then 12 else b

-- the character of an escape, from what stands after its backslash, and how many bytes of that it takes
unfoldable pub escaped : List ℕ → List ℕ
escaped [] = []
escaped (b ∷ rest) = if b == 117 then character (four_digits 0 rest) else if b == 85 then character (eight_digits rest) else short_escape b ∷ []

unfoldable pub escape_bytes : List ℕ → ℕ
escape_bytes [] = 0
escape_bytes (b ∷ rest) = if b == 117 then 5 else if b == 85 then 9 else 1

-- a byte that begins no escape
abbrev pub is_plain : ℕ → Bool
is_plain b = not (b == 92)

-- a text with its escapes replaced. Bytes of an escape that was replaced are skipped first.
unfoldable pub unescaped : ℕ → List ℕ → List ℕ
unescaped skip [] = []
unescaped (suc skip) (b ∷ rest) = unescaped skip rest
unescaped zero (b ∷ rest) = if is_plain b then b ∷ unescaped zero rest else escaped rest ++ unescaped (escape_bytes rest) rest

-- the text of an IRI, and of a string, that stands in front
unfoldable pub iri_text : List ℕ → List ℕ
iri_text text = unescaped 0 (enclosed text (left (iri text)))

unfoldable pub string_text : List ℕ → List ℕ
string_text text = unescaped 0 (enclosed text (left (string text)))

-- the end of a literal, from what stands after its string
unfoldable pub tail_said : List ℕ → Tail
tail_said text = begun (byte 64 text) (λ rest. Lang (part rest (left (tag rest)))) (begun (twice 94 text) (λ rest. Typed (iri_text rest)) Simple)

unfoldable pub literal_said : List ℕ → Value
literal_said text = Literal (string_text text) (tail_said (left (string text)))

-- a blank node's label is what stands after its '_:'
unfoldable pub blank_node_said : List ℕ → Value
blank_node_said text = Bnode (part (drop 2 text) (left (blank_node text)))

unfoldable pub plain_said : List ℕ → Value
plain_said text =
    if starts (λ b. b == 60) text then Iri (iri_text text)
    else if starts (λ b. b == 34) text then literal_said text
    else blank_node_said text

-- what stands after a part and blanks
abbrev pub next : (List ℕ → Option (List ℕ)) → List ℕ → List ℕ
next one text = blanks (left (one text))

-- a triple term of three, from what stands after its '<<'
abbrev pub nested_said : (List ℕ → Option (List ℕ)) → (List ℕ → Value) → List ℕ → Value
nested_said one said s = Nested (said s) (said (next one s)) (said (next one (next one s)))

unfoldable pub three_said : (List ℕ → Option (List ℕ)) → (List ℕ → Value) → List ℕ → Value
three_said one said text = nested_said one said (blanks text)

-- the term that stands in front
unfoldable pub said : ℕ → List ℕ → Value
said zero text = plain_said text
said (suc depth) text = begun (twice 60 text) (three_said (term depth) (said depth)) (plain_said text)

-- the item of three terms, from what stands after them
unfoldable pub item_with : Value → Value → Value → List ℕ → Item
item_with s p o text = if starts (λ b. b == 46) text then Triple s p o else Quad s p o (plain_said text)

-- what a text says whose statement begins with it
abbrev pub terms_said : (List ℕ → List ℕ) → List ℕ → Item
terms_said after s = item_with (said most_nested s) (said most_nested (after s)) (said most_nested (after (after s))) (after (after (after s)))

unfoldable pub statement_said : List ℕ → Item
statement_said text = terms_said (next (term most_nested)) text

-- the item of a line
unfoldable pub item_said : List ℕ → Item
item_said line = statement_said (blanks line)
