use Rattle.std.proofs.Common.{ℕ, List, ◌++◌, ap, sym, ◌∙◌, append-nil}
use Rattle.jl_base.specs.Items.{tail_of}
use Rattle.jl_spell.specs.Rows.{literal_of}
use Rattle.jl_spell.proofs.Writing.{on_ok}
use Rattle.jl_encode.specs.declared.stated.Stated.TheVariants.{Texts, Typed}
use Rattle.jl_encode.specs.Stated.{ending_stated}
use Rattle.jl_encode.proofs.RowLemmas.{empty_field}
use Rattle.jl_encode.proofs.ShortLemmas.{held_short}
use Rattle.jl_encode.proofs.StatedTerms.{graph_nested}
use Rattle.jl_encode.proofs.spelling.push_graph.Goals as goal

pub push_literal-requires : goal.push_literal-requires
push_literal-requires c =
    let short = rw (c.in-Literal-Texts.is-0, c.in-Literal-Texts.is-1) at c.requires.short in
    rw (c.bytes-in-Literal-Texts.ensures, c.in-Literal-Texts.is-1) (held_short 16 (literal_of c.in-Literal-Texts.lex (ending_stated (tail_of c.in-Literal-Texts.tail) Texts)) short)

pub push_literal-requires-in-Literal-Typed : goal.push_literal-requires-in-Literal-Typed
push_literal-requires-in-Literal-Typed c =
    let short = rw (c.in-Literal-Typed.is-0, c.in-Literal-Typed.is-1) at c.requires.short in
    rw (c.bytes-in-Literal-Typed.ensures, c.in-Literal-Typed.is-1)
    (held_short 16 (literal_of c.in-Literal-Typed.lex (ending_stated (tail_of c.in-Literal-Typed.tail) (Typed c.in-Literal-Typed.field-0-1))) short)

pub returns-in-Default-Texts : goal.returns-in-Default-Texts
returns-in-Default-Texts c = rw (c.in-Default-Texts.is-0, c.in-Default-Texts.is-1) (on_ok c.push_front.result c.push_front.ensures.ok (λ e. e ∙ ap (λ (xs : List ℕ). c.args.out.now.items ++ xs) (empty_field 15)))

pub returns-in_default-5 : goal.returns-in_default-5
returns-in_default-5 c = rw (c.in_default.is-0, graph_nested c.in_default.field-0-0 c.args.said.now) (sym (append-nil c.args.out.now.items))
