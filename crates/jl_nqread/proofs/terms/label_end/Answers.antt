use Rattle.std.proofs.Common.{sym, ◌∙◌, drop, arith}
use Rattle.jl_nqread.proofs.GrammarLaws.{label_more, label_stop}
use Rattle.jl_nqread.proofs.terms.label_end.Goals as goal

pub run-preserved : goal.run-preserved
run-preserved c =
    let inside = c.is_label_at.ensures.inside c.run-test.true in
    let order = c.end_with-end.ensures.order in
    let more = label_more c.args.bytes.now c.run.end c.run.at c.end_with-end.result inside (sym c.is_label_at.ensures.exact ∙ c.run-test.true) c.end_with-end.ensures.exact in
    (c.run.invariant.0 ∙ more, omega (arith, c.run.invariant.1, order.0), order.1, omega (arith, inside))

pub returns-clause-exact : goal.returns-clause-exact
returns-clause-exact c = sym (c.run.invariant.0 ∙ label_stop (drop c.run.end c.args.bytes.now) (drop c.run.at c.args.bytes.now) (sym c.is_label_at.ensures.exact ∙ c.run-test.false))

pub returns-clause-inside : goal.returns-clause-inside
returns-clause-inside c = (c.run.invariant.1, omega (arith, c.run.invariant.2, c.run.invariant.3))
