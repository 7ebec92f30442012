use Rattle.std.proofs.Common.{sym, ◌∙◌, drop, arith}
use Rattle.jl_nqread.specs.Meaning.{unescaped}
use Rattle.jl_nqread.proofs.MeaningLaws.{plain_run}
use Rattle.jl_nqread.proofs.unescape.plain_end.Goals as goal

pub run-preserved : goal.run-preserved
run-preserved c =
    let is = sym c.is_plain_at.ensures.exact ∙ c.run-test.true in
    let inside = c.is_plain_at.ensures.inside c.run-test.true in
    let order = c.run.invariant.1 in
    (plain_run c.args.bytes.now (unescaped 0 (drop c.args.from c.args.bytes.now)) c.args.from c.run.at order inside is c.run.invariant.0, omega (arith, order), omega (arith, inside))
