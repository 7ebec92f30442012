use Rattle.std.proofs.Common.{refl, ap, ◌∙◌}
use Rattle.jl_base.specs.Items.{tail_of}
use Rattle.jl_spell.specs.Rows.{iri_of, literal_of}
use Rattle.jl_encode.specs.Spelling.{limited, in_field}
use Rattle.jl_encode.specs.Stated.{ending_stated, ids_stated}
use Rattle.jl_encode.proofs.Lengths.{field_bytes}
use Rattle.jl_encode.proofs.StatedTerms.{graph_nested}
use Rattle.jl_encode.proofs.spelling.graph_size.Goals as goal

pub returns-in-Iri-Iri : goal.returns-in-Iri-Iri
returns-in-Iri-Iri c =
    let size = c.field_size.ensures ∙ ap (in_field 13) (c.limit.ensures ∙ ap limited c.iri_size.ensures.exact) ∙ field_bytes 13 (iri_of (ids_stated c.in-Iri-Iri.ids)) in
    rw (c.in-Iri-Iri.is-0, c.in-Iri-Iri.is-1) size

pub returns-in-Literal-Texts : goal.returns-in-Literal-Texts
returns-in-Literal-Texts c =
    let size = c.field_size-in-Literal-Texts.ensures ∙ ap (in_field 16) c.literal_size.ensures ∙ field_bytes 16 (literal_of c.bytes-in-Literal-Texts.result.now (ending_stated (tail_of c.in-Literal-Texts.tail) c.args.said.now)) in
    let lex = rw (c.bytes-in-Literal-Texts.ensures, c.in-Literal-Texts.is-1) at size in
    rw (c.in-Literal-Texts.is-0, c.in-Literal-Texts.is-1) lex

pub returns-in-Literal-Typed : goal.returns-in-Literal-Typed
returns-in-Literal-Typed c =
    let size = c.field_size-in-Literal-Typed.ensures ∙ ap (in_field 16) c.literal_size-in-Literal-Typed.ensures ∙ field_bytes 16 (literal_of c.bytes-in-Literal-Typed.result.now (ending_stated (tail_of c.in-Literal-Typed.tail) c.args.said.now)) in
    let lex = rw (c.bytes-in-Literal-Typed.ensures, c.in-Literal-Typed.is-1) at size in
    rw (c.in-Literal-Typed.is-0, c.in-Literal-Typed.is-1) lex

pub returns-in_default-5 : goal.returns-in_default-5
returns-in_default-5 c = rw (c.in_default.is-0, graph_nested c.in_default.field-0-0 c.args.said.now) refl
