use Rattle.std.proofs.Common.{◌+◌, arith}
use Rattle.jl_rows.proofs.ShortNumbers.{short_of_one, short_of_two, short_of_three}
use Rattle.jl_rows.proofs.short_fields.id.Goals as goal

pub returns-then-first-lt128 : goal.returns-then-first-lt128
returns-then-first-lt128 c = short_of_one _ _ _ c.if-first-lt128.true c.from.ensures

pub returns-then-second-lt128 : goal.returns-then-second-lt128
returns-then-second-lt128 c =
    let low = c.from-then-second-lt128.ensures in
    let high = c.from-then-second-lt128-2.ensures in
    short_of_two _ _ _ c.if-first-lt128.false (omega (arith, c.type_inv.bytes c.args.at)) c.if-second-lt128.true (omega (arith, low, high))

pub returns-then-third-lt128 : goal.returns-then-third-lt128
returns-then-third-lt128 c =
    let low = c.from-then-third-lt128.ensures in
    let middle = c.from-then-third-lt128-2.ensures in
    let high = c.from-then-third-lt128-3.ensures in
    short_of_three _ _ _ c.if-first-lt128.false (omega (arith, c.type_inv.bytes c.args.at)) c.if-second-lt128.false (omega (arith, c.type_inv.bytes (c.args.at + 1))) c.if-third-lt128.true (omega (arith, low, middle, high))
