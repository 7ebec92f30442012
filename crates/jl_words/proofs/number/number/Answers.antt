use Rattle.std.proofs.Common.{◌≡◌, ℕ, ◌+◌, List, sym, ◌∙◌, arith, None, drop}
use Rattle.std.specs.Prelude.{slice_index_or}
use Rattle.std.proofs.lemmas.List.{at_drop_more, at_drop_all}
use Rattle.jl_words.specs.Numbers as spec
use Rattle.jl_words.proofs.NumberLemmas.{no_more, ended}
use Rattle.jl_words.proofs.number.number.Goals as goal

pub returns-in_err-number : goal.returns-in_err-number
returns-in_err-number c =
    let n = c.loop-byte.number in
    let digit : ℕ = slice_index_or c.args.text.now c.loop-byte.byte-index 0 in
    let digits : List ℕ = drop (c.loop-byte.byte-index + 1) c.args.text.now in
    let none : spec.next n digit ≡ None = sym c.next.ensures ∙ c.in_err-number.was in
    c.from_residual.ensures ∙ sym (at_drop_more (spec.small_after n) c.args.text.now c.loop-byte.byte-index 0 c.loop-byte-test.true ∙ no_more n digit digits none) ∙ c.loop-byte.invariant.rest

pub returns : goal.returns
returns c = ended c.loop-byte.number c.loop-byte.invariant.small ∙ sym (at_drop_all (spec.small_after c.loop-byte.number) c.args.text.now c.loop-byte.byte-index (omega arith)) ∙ c.loop-byte.invariant.rest
