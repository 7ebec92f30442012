use Rattle.std.proofs.Common.{◌≡◌, ◌∙◌, ◌-◌, ℕ, not, sym, slice_get, ap, find, arith}
use Rattle.std.specs.Option.{option_or}
use Rattle.std.proofs.lemmas.List.Folds.{find-append}
use Rattle.jl_encoding.specs.Slots.{numbers_from}
use Rattle.jl_encode.specs.Desks.{is_mark}
use Rattle.jl_encode.proofs.texts.next_unused.Goals as goal

pub returns-in-Some-clause-exact : goal.returns-in-Some-clause-exact
returns-in-Some-clause-exact c =
    let p = λ (j : ℕ). not (is_mark c.args.item (slice_get c.args.marks.now j)) in
    ap (λ r. option_or r (find p (numbers_from 0 c.args.size))) c.in-Some.ensures.exact ∙ sym (find-append p (numbers_from c.args.last (c.args.size - c.args.last)) (numbers_from 0 c.args.size))

pub returns-clause-exact : goal.returns-clause-exact
returns-clause-exact c =
    let p = λ (j : ℕ). not (is_mark c.args.item (slice_get c.args.marks.now j)) in
    let all : c.args.size - 0 ≡ c.args.size = omega arith in
    c.first_unused-2.ensures.exact ∙ ap (λ n. find p (numbers_from 0 n)) all
    ∙ ap (λ r. option_or r (find p (numbers_from 0 c.args.size))) c.in_default.ensures.exact ∙ sym (find-append p (numbers_from c.args.last (c.args.size - c.args.last)) (numbers_from 0 c.args.size))
