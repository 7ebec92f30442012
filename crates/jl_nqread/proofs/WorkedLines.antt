-- Lines that were judged by hand, held against the definitions by computing. They are ASCII, so UTF-8.
use Rattle.std.proofs.Common.{◌≡◌, true, false, [], codes, refl, Bool, List, ℕ}
use Rattle.jl_nqread.specs.declared.line_shape.Shape.{Shape}
use Rattle.jl_nqread.specs.declared.line_shape.Shape.TheVariants.{Blank, Triple, Quad, Bad}
use Rattle.jl_nqread.specs.Taking.{twice, past, closed}
use Rattle.jl_nqread.specs.Grammar.{digit_at, four_digits, eight_digits, uchar, iri_char, iri, string_escape, string_char, string, tag_groups, tag, literal_tail, literal, label_end, label, blank_node, plain_term, three_terms, term, blanks, most_nested}
use Rattle.jl_nqread.specs.Lines.{ended, after_object, statement, shape_after_blanks, is_whole}

abbrev judged : List ℕ → Shape
judged line = shape_after_blanks (blanks line)

abbrev is_one : List ℕ → Bool
is_one text = is_whole (term most_nested text)

a_quad : judged (codes "<a> <b> \"x\"@en <g> . # c") ≡ Quad
unfolding twice past closed digit_at four_digits eight_digits uchar iri_char iri string_escape string_char string tag_groups tag literal_tail literal label_end label blank_node plain_term three_terms term ended after_object statement shape_after_blanks
a_quad = refl

an_empty_line : judged [] ≡ Blank
unfolding twice past closed digit_at four_digits eight_digits uchar iri_char iri string_escape string_char string tag_groups tag literal_tail literal label_end label blank_node plain_term three_terms term ended after_object statement shape_after_blanks
an_empty_line = refl

a_comment : judged (codes " \t# <a>") ≡ Blank
unfolding twice past closed digit_at four_digits eight_digits uchar iri_char iri string_escape string_char string tag_groups tag literal_tail literal label_end label blank_node plain_term three_terms term ended after_object statement shape_after_blanks
a_comment = refl

a_triple : judged (codes "_:z <b> <a> .") ≡ Triple
unfolding twice past closed digit_at four_digits eight_digits uchar iri_char iri string_escape string_char string tag_groups tag literal_tail literal label_end label blank_node plain_term three_terms term ended after_object statement shape_after_blanks
a_triple = refl

without_blanks : judged (codes "<a><b>\"x\".") ≡ Triple
unfolding twice past closed digit_at four_digits eight_digits uchar iri_char iri string_escape string_char string tag_groups tag literal_tail literal label_end label blank_node plain_term three_terms term ended after_object statement shape_after_blanks
without_blanks = refl

no_object : judged (codes "<a> <b> .") ≡ Bad
unfolding twice past closed digit_at four_digits eight_digits uchar iri_char iri string_escape string_char string tag_groups tag literal_tail literal label_end label blank_node plain_term three_terms term ended after_object statement shape_after_blanks
no_object = refl

label_before_a_full_stop : judged (codes "<a> <b> _:c.d..") ≡ Bad
unfolding twice past closed digit_at four_digits eight_digits uchar iri_char iri string_escape string_char string tag_groups tag literal_tail literal label_end label blank_node plain_term three_terms term ended after_object statement shape_after_blanks
label_before_a_full_stop = refl

label_and_full_stop : judged (codes "<a> <b> _:c.d.") ≡ Triple
unfolding twice past closed digit_at four_digits eight_digits uchar iri_char iri string_escape string_char string tag_groups tag literal_tail literal label_end label blank_node plain_term three_terms term ended after_object statement shape_after_blanks
label_and_full_stop = refl

a_surrogate : judged (codes "<a> <b> \"\\ud800\" .") ≡ Bad
unfolding twice past closed digit_at four_digits eight_digits uchar iri_char iri string_escape string_char string tag_groups tag literal_tail literal label_end label blank_node plain_term three_terms term ended after_object statement shape_after_blanks
a_surrogate = refl

triple_terms : judged (codes "<< <a> <b> <<_:c <d>\"e\">> >> <f> <g>.") ≡ Triple
unfolding twice past closed digit_at four_digits eight_digits uchar iri_char iri string_escape string_char string tag_groups tag literal_tail literal label_end label blank_node plain_term three_terms term ended after_object statement shape_after_blanks
triple_terms = refl

triple_term_as_graph : judged (codes "<a> <b> <c> << <a> <b> <c> >> .") ≡ Bad
unfolding twice past closed digit_at four_digits eight_digits uchar iri_char iri string_escape string_char string tag_groups tag literal_tail literal label_end label blank_node plain_term three_terms term ended after_object statement shape_after_blanks
triple_term_as_graph = refl

more_after_the_end : judged (codes "<a> <b> <c> . <d>") ≡ Bad
unfolding twice past closed digit_at four_digits eight_digits uchar iri_char iri string_escape string_char string tag_groups tag literal_tail literal label_end label blank_node plain_term three_terms term ended after_object statement shape_after_blanks
more_after_the_end = refl

a_typed_literal : is_one (codes "\"1\"^^<i>") ≡ true
unfolding twice past closed digit_at four_digits eight_digits uchar iri_char iri string_escape string_char string tag_groups tag literal_tail literal label_end label blank_node plain_term three_terms term ended after_object statement shape_after_blanks
a_typed_literal = refl

a_tag_that_breaks_off : is_one (codes "\"a\"@en-") ≡ false
unfolding twice past closed digit_at four_digits eight_digits uchar iri_char iri string_escape string_char string tag_groups tag literal_tail literal label_end label blank_node plain_term three_terms term ended after_object statement shape_after_blanks
a_tag_that_breaks_off = refl

a_blank_before : is_one (codes " <a>") ≡ false
unfolding twice past closed digit_at four_digits eight_digits uchar iri_char iri string_escape string_char string tag_groups tag literal_tail literal label_end label blank_node plain_term three_terms term ended after_object statement shape_after_blanks
a_blank_before = refl
