-- Lines that were written out by hand, held against the definitions by computing.
use Rattle.std.specs.Prelude.{◌≡◌, [], ◌∷◌, ◌++◌, codes}
use Rattle.std.proofs.Common.{refl}
use Rattle.jl_base.specs.Terms.{Simple, Lang, Typed, Value, Iri, Bnode, Literal, Nested, Default, Triple, Quad, Namespace}
use Rattle.jl_text.specs.Line.{iri_byte, string_byte, label_byte, label_written, tail_text, term_text, graph_texts, line, text}

abbrev a : Value
a = Iri (codes "a")

abbrev b : Value
b = Iri (codes "a b")

-- the bytes are `"`, a line feed, U+007F and the two of U+00E9
escapes_and_labels : line (Triple (Bnode (codes "a-X")) b (Literal (0x22 ∷ 0x0A ∷ 0x7F ∷ 0xC3 ∷ 0xA9 ∷ []) Simple))
    ≡ codes "_:aX2DX58 <a\\u0020b> \"\\\"\\n\\u007F" ++ (0xC3 ∷ 0xA9 ∷ codes "\" .\n")
unfolding iri_byte string_byte label_byte label_written tail_text term_text line
escapes_and_labels = refl

empty_label : line (Triple (Bnode []) b (Literal (codes "x") Simple)) ≡ codes "_:X <a\\u0020b> \"x\" .\n"
unfolding iri_byte string_byte label_byte label_written tail_text term_text line
empty_label = refl

nested_triple_terms : line (Triple (Nested a a a) a a) ≡ codes "<< <a> <a> <a> >> <a> <a> .\n"
unfolding iri_byte term_text line
nested_triple_terms = refl

typed : line (Triple a a (Literal (codes "42") (Typed (codes "http://www.w3.org/2001/XMLSchema#integer"))))
    ≡ codes "<a> <a> \"42\"^^<http://www.w3.org/2001/XMLSchema#integer> .\n"
unfolding iri_byte string_byte tail_text term_text line
typed = refl

string_is_simple : line (Triple a a (Literal (codes "x") (Typed (codes "http://www.w3.org/2001/XMLSchema#string")))) ≡ codes "<a> <a> \"x\" .\n"
unfolding iri_byte string_byte tail_text term_text line
string_is_simple = refl

tagged : line (Triple a a (Literal (codes "Alice") (Lang (codes "en")))) ≡ codes "<a> <a> \"Alice\"@en .\n"
unfolding iri_byte string_byte tail_text term_text line
tagged = refl

default_graph : line (Quad a a a Default) ≡ codes "<a> <a> <a> .\n"
unfolding iri_byte term_text graph_texts line
default_graph = refl

named_graph : line (Quad a a a (Iri (codes "g"))) ≡ codes "<a> <a> <a> <g> .\n"
unfolding iri_byte term_text graph_texts line
named_graph = refl

namespace : line (Namespace (codes "p0") (codes "http://example.org/v0/")) ≡ codes "# prefix p0 <http://example.org/v0/>\n"
unfolding iri_byte string_byte line
namespace = refl

-- U+007F stays as it is in an IRI.
raw_in_iri : term_text (Iri (0x7F ∷ [])) ≡ 0x3C ∷ 0x7F ∷ 0x3E ∷ []
unfolding iri_byte term_text
raw_in_iri = refl

-- each byte that is written otherwise in an IRI
escaped_in_iri : term_text (Iri (0x00 ∷ 0x1F ∷ codes "<>\"{}|^`\\")) ≡ codes "<\\u0000\\u001F\\u003C\\u003E\\u0022\\u007B\\u007D\\u007C\\u005E\\u0060\\u005C>"
unfolding iri_byte term_text
escaped_in_iri = refl

-- each byte that has a letter of its own in a string, and some that have none
escaped_in_string : term_text (Literal (0x09 ∷ 0x08 ∷ 0x0A ∷ 0x0D ∷ 0x0C ∷ 0x22 ∷ 0x5C ∷ 0x00 ∷ 0x1F ∷ codes "<'") Simple) ≡ codes "\"\\t\\b\\n\\r\\f\\\"\\\\\\u0000\\u001F<'\""
unfolding string_byte tail_text term_text
escaped_in_string = refl

lines : text (Quad a a a Default ∷ Triple a b a ∷ []) ≡ codes "<a> <a> <a> .\n<a> <a\\u0020b> <a> .\n"
unfolding iri_byte term_text graph_texts line
lines = refl
