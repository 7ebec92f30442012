use Rattle.std.proofs.Common.{arith}
use Rattle.jl_wire.proofs.VarintSteps.{one_byte, two_bytes}
use Rattle.jl_wire.proofs.number.varint.Goals as goal

pub returns-then-first-lt128-clause-exact : goal.returns-then-first-lt128-clause-exact
returns-then-first-lt128-clause-exact c =
    one_byte _ _ _ _ _ c.if-at-end.true c.requires.inside c.if-first-lt128.true c.from.ensures (omega arith)

pub returns-then-second-lt128-clause-exact : goal.returns-then-second-lt128-clause-exact
returns-then-second-lt128-clause-exact c =
    let low = c.from-then-second-lt128.ensures in
    let high = c.from-then-second-lt128-2.ensures in
    two_bytes _ _ _ _ _ (omega arith) c.requires.inside c.if-first-lt128.false (omega (arith, c.type_inv.bytes c.args.at)) c.if-second-lt128.true (omega (arith, low, high)) (omega arith)
