use Rattle.std.proofs.Common.{arith, ℕ, Option, unwrap_or, length, ap, sym, ◌∙◌, ◌+◌, append-nil}
use Rattle.jl_base.specs.Items.{tail_of, value_of}
use Rattle.jl_spell.specs.Rows.{literal_of}
use Rattle.jl_encode.specs.declared.stated.Stated.TheVariants.{Texts, Typed}
use Rattle.jl_encode.specs.Spelling.{term_bytes, three_bytes}
use Rattle.jl_encode.specs.Stated.{ending_stated, stated}
use Rattle.jl_encode.proofs.ShortLemmas.{held_short, told}
use Rattle.jl_spell.proofs.Writing.{on_ok}
use Rattle.jl_encode.proofs.RowLemmas.{three_appended}
use Rattle.jl_encode.proofs.StatedTerms.{value_nested, stated_nested, unstated_nested}
use Rattle.jl_encode.proofs.spelling.+push_term.Goals as goal

pub push_term-push_literal-requires : goal.push_term-push_literal-requires
push_term-push_literal-requires t c =
    let short = rw (c.in-Literal-Texts.is-0, c.in-Literal-Texts.is-1) at c.requires.short in
    rw (c.bytes-in-Literal-Texts.ensures, c.in-Literal-Texts.is-1) (held_short (c.args.base + 3) (literal_of c.in-Literal-Texts.lex (ending_stated (tail_of c.in-Literal-Texts.tail) Texts)) short)

pub push_term-push_literal-requires-in-Literal-Typed : goal.push_term-push_literal-requires-in-Literal-Typed
push_term-push_literal-requires-in-Literal-Typed t c =
    let short = rw (c.in-Literal-Typed.is-0, c.in-Literal-Typed.is-1) at c.requires.short in
    rw (c.bytes-in-Literal-Typed.ensures, c.in-Literal-Typed.is-1)
    (held_short (c.args.base + 3) (literal_of c.in-Literal-Typed.lex (ending_stated (tail_of c.in-Literal-Typed.tail) (Typed c.in-Literal-Typed.field-0-1))) short)

pub push_term-push_three-requires : goal.push_term-push_three-requires
push_term-push_three-requires t c =
    let s = c.in-Triple-Triple.three in
    let h = c.in-Triple-Triple.held in
    let short = rw (c.in-Triple-Triple.is-0, c.in-Triple-Triple.is-1, stated_nested s h) at c.requires.short in
    let falls = rw (c.in-Triple-Triple.is-0, value_nested s) at c.decreases in
    rw (c.get.ensures, c.get-in-Triple-Triple.ensures) (omega (arith, falls), held_short (c.args.base + 4) (three_bytes (stated (value_of s.s) h.s) (stated (value_of s.p) h.p) (stated (value_of s.o) h.o)) short)

pub push_term-returns-in-Triple-Triple : goal.push_term-returns-in-Triple-Triple
push_term-returns-in-Triple-Triple t c =
    let done = rw (c.get.ensures, c.get-in-Triple-Triple.ensures) at c.push_three.ensures in
    rw (c.in-Triple-Triple.is-0, c.in-Triple-Triple.is-1, stated_nested c.in-Triple-Triple.three c.in-Triple-Triple.held) done

pub push_term-returns-in_default-4 : goal.push_term-returns-in_default-4
push_term-returns-in_default-4 t c = rw (c.in_default.is-0, unstated_nested c.in_default.field-0-0 c.args.said.now c.in_default.not-Triple-1) (sym (append-nil c.args.out.now.items))

pub push_three-returns : goal.push_three-returns
push_three-returns t c =
    let x = stated (value_of c.args.three.now.s) c.args.held.now.s in
    let y = stated (value_of c.args.three.now.p) c.args.held.now.p in
    let z = stated (value_of c.args.three.now.o) c.args.held.now.o in
    let size = c.unwrap_or-size.ensures ∙ ap (λ (l : Option ℕ). unwrap_or l 0) (c.three_size.ensures ∙ told (length (three_bytes x y z)) c.requires.short) in
    on_ok c.push_term-3.result c.push_term-3.ensures
    (λ last. three_appended c.args.field c.unwrap_or-size.result c.args.out.now.items c.push_front.new.out.items c.push_term.new.out.items c.push_term-2.new.out.items c.push_term-3.new.out.items
    (term_bytes 0 x) (term_bytes 4 y) (term_bytes 8 z) c.in_ok-push_front.ensures.ok size c.in_ok-push_term.ensures c.in_ok-push_term-2.ensures last)
