use Rattle.std.proofs.Common.{arith}
use Rattle.jl_rows.proofs.ShortNumbers.{short_of_one, short_of_two}
use Rattle.jl_rows.proofs.short_fields.short.Goals as goal

pub returns-then-first-lt128 : goal.returns-then-first-lt128
returns-then-first-lt128 c = short_of_one _ _ _ c.if-first-lt128.true c.from.ensures

pub returns-then-second-lt128 : goal.returns-then-second-lt128
returns-then-second-lt128 c =
    let low = c.from-then-second-lt128.ensures in
    let high = c.from-then-second-lt128-2.ensures in
    short_of_two _ _ _ c.if-first-lt128.false (omega (arith, c.type_inv.bytes c.args.at)) c.if-second-lt128.true (omega (arith, low, high))
