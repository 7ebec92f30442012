-- Each return is one lemma on a field read part by part.
use Rattle.std.proofs.Common.{◌∙◌, sym, arith}
use Rattle.std.proofs.lemmas.Result.{err_from_is_err_and}
use Rattle.jl_wire.proofs.FieldSteps.{no_tag, bad_tag, no_content, whole_field}
use Rattle.jl_wire.proofs.field.next_field.Goals as goal

pub returns-in_err-tag-clause-exact : goal.returns-in_err-tag-clause-exact
returns-in_err-tag-clause-exact c =
    let p = err_from_is_err_and c.from_residual.result c.from_residual.ensures.1 in
    rw (p.1, p.2) (omega arith, no_tag _ _ c.in_err-tag.ensures.exact)

pub returns-then-is_bad_tag-clause-exact : goal.returns-then-is_bad_tag-clause-exact
returns-then-is_bad_tag-clause-exact c =
    (omega arith, bad_tag _ _ _ c.in_ok-tag.ensures.exact (sym c.is_bad_tag.ensures ∙ c.if-is_bad_tag.true))

pub returns-in_err-value-clause-exact : goal.returns-in_err-value-clause-exact
returns-in_err-value-clause-exact c =
    let start = c.in_ok-tag.ensures.within in
    let good = sym c.is_bad_tag.ensures ∙ c.if-is_bad_tag.false in
    let p = err_from_is_err_and c.from_residual-in_err-value.result c.from_residual-in_err-value.ensures.1 in
    rw (p.1, p.2) (omega arith, no_content _ _ _ _ _ _ (omega (arith, start)) (omega (arith, start)) c.in_ok-tag.ensures.exact good c.in_err-value.ensures.exact)

pub returns-clause-exact : goal.returns-clause-exact
returns-clause-exact c =
    let start = c.in_ok-tag.ensures.within in
    let good = sym c.is_bad_tag.ensures ∙ c.if-is_bad_tag.false in
    let next = c.in_ok-value.ensures.within in
    (omega arith, whole_field _ _ _ _ _ _ _ (omega (arith, start)) (omega (arith, next)) (omega (arith, next)) c.in_ok-tag.ensures.exact good c.in_ok-value.ensures.exact)
