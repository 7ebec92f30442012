use Rattle.std.proofs.Common.{refl, ap, ◌∙◌, ◌+◌}
use Rattle.jl_base.specs.Items.{tail_of, value_of}
use Rattle.jl_spell.specs.Rows.{iri_of, literal_of}
use Rattle.jl_encode.specs.Spelling.{limited, in_field, three_bytes}
use Rattle.jl_encode.specs.Stated.{ending_stated, ids_stated, stated}
use Rattle.jl_encode.proofs.Lengths.{field_bytes}
use Rattle.jl_encode.proofs.StatedTerms.{stated_nested, unstated_nested}
use Rattle.jl_encode.proofs.spelling.+term_size.Goals as goal

pub term_size-returns-in-Iri-Iri : goal.term_size-returns-in-Iri-Iri
term_size-returns-in-Iri-Iri t c =
    let size = c.field_size.ensures ∙ ap (in_field (c.args.base + 1)) (c.limit.ensures ∙ ap limited c.iri_size.ensures.exact) ∙ field_bytes (c.args.base + 1) (iri_of (ids_stated c.in-Iri-Iri.ids)) in
    rw (c.in-Iri-Iri.is-0, c.in-Iri-Iri.is-1) size

pub term_size-returns-in-Literal-Texts : goal.term_size-returns-in-Literal-Texts
term_size-returns-in-Literal-Texts t c =
    let size = c.field_size-in-Literal-Texts.ensures ∙ ap (in_field (c.args.base + 3)) c.literal_size.ensures ∙ field_bytes (c.args.base + 3) (literal_of c.bytes-in-Literal-Texts.result.now (ending_stated (tail_of c.in-Literal-Texts.tail) c.args.said.now)) in
    let lex = rw (c.bytes-in-Literal-Texts.ensures, c.in-Literal-Texts.is-1) at size in
    rw (c.in-Literal-Texts.is-0, c.in-Literal-Texts.is-1) lex

pub term_size-returns-in-Literal-Typed : goal.term_size-returns-in-Literal-Typed
term_size-returns-in-Literal-Typed t c =
    let size = c.field_size-in-Literal-Typed.ensures ∙ ap (in_field (c.args.base + 3)) c.literal_size-in-Literal-Typed.ensures ∙ field_bytes (c.args.base + 3) (literal_of c.bytes-in-Literal-Typed.result.now (ending_stated (tail_of c.in-Literal-Typed.tail) c.args.said.now)) in
    let lex = rw (c.bytes-in-Literal-Typed.ensures, c.in-Literal-Typed.is-1) at size in
    rw (c.in-Literal-Typed.is-0, c.in-Literal-Typed.is-1) lex

pub term_size-returns-in-Triple-Triple : goal.term_size-returns-in-Triple-Triple
term_size-returns-in-Triple-Triple t c =
    let s = c.get.result.now in
    let h = c.get-in-Triple-Triple.result.now in
    let size = c.field_size-in-Triple-Triple.ensures ∙ ap (in_field (c.args.base + 4)) c.three_size.ensures ∙ field_bytes (c.args.base + 4) (three_bytes (stated (value_of s.s) h.s) (stated (value_of s.p) h.p) (stated (value_of s.o) h.o)) in
    let inside = rw (c.get.ensures, c.get-in-Triple-Triple.ensures) at size in
    rw (c.in-Triple-Triple.is-0, c.in-Triple-Triple.is-1, stated_nested c.in-Triple-Triple.three c.in-Triple-Triple.held) inside

pub term_size-returns-in_default-4 : goal.term_size-returns-in_default-4
term_size-returns-in_default-4 t c = rw (c.in_default.is-0, unstated_nested c.in_default.field-0-0 c.args.said.now c.in_default.not-Triple-1) refl
