use Rattle.std.proofs.Common.{sym, ◌∙◌, drop, arith}
use Rattle.jl_nqread.specs.Grammar.{goes_on_tag}
use Rattle.jl_nqread.proofs.TakingLaws.{past_more, past_stop}
use Rattle.jl_nqread.proofs.terms.groups.Goals as goal

pub run-preserved : goal.run-preserved
run-preserved c =
    let is = sym c.goes_on_tag.ensures.exact ∙ c.run-test.true in
    let inside = c.goes_on_tag.ensures.inside c.run-test.true in
    (sym (past_more goes_on_tag c.args.bytes.now c.run.at inside is) ∙ c.run.invariant.0, omega (arith, c.run.invariant.1), omega (arith, inside))

pub returns-clause-exact : goal.returns-clause-exact
returns-clause-exact c = sym (past_stop goes_on_tag (drop c.run.at c.args.bytes.now) (sym c.goes_on_tag.ensures.exact ∙ c.run-test.false)) ∙ c.run.invariant.0

pub returns-clause-inside : goal.returns-clause-inside
returns-clause-inside c = (c.run.invariant.1, c.run.invariant.2)
