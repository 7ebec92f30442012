use Rattle.std.proofs.Common.{◌∙◌, sym, arith}
use Rattle.jl_encode.proofs.SplitLemmas.{found_at, passed_at}
use Rattle.jl_encode.proofs.split.size.Goals as goal

pub returns-then-ends_prefix-clause-exact : goal.returns-then-ends_prefix-clause-exact
returns-then-ends_prefix-clause-exact c = found_at c.args.text.now c.bytes.len c.bytes-test.true c.bytes.invariant.within (sym c.ends_prefix.ensures ∙ c.if-ends_prefix.true) ∙ sym c.bytes.invariant.rest

pub bytes-preserved : goal.bytes-preserved
bytes-preserved c =
    let within = c.bytes.invariant.within in
    record {
      within = omega (arith, within);
      rest = c.bytes.invariant.rest ∙ passed_at c.args.text.now c.bytes.len c.bytes-test.true within (sym c.ends_prefix.ensures ∙ c.if-ends_prefix.false);
    }
