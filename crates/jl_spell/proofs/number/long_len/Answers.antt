use Rattle.std.proofs.Common.{◌≡◌, ◌/◌, suc, length, ap, arith}
use Rattle.jl_spell.specs.Varints.{varint_within}
use Rattle.jl_spell.proofs.VarintSteps.{whole, more, last}
use Rattle.jl_spell.proofs.number.long_len.Goals as goal

pub by_seven-init : goal.by_seven-init
by_seven-init c = record { room = 10; sum = omega arith; some = omega arith; small = omega (arith, c.ranges.number); counted = omega (arith, ap length (whole c.args.number)) }

pub by_seven-preserved : goal.by_seven-preserved
by_seven-preserved c =
    let before = c.by_seven.invariant in
    let next = more before.room c.by_seven.rest c.by_seven-test.true before.small in
    let size : length (varint_within before.room c.by_seven.rest) ≡ suc (length (varint_within next.after (c.by_seven.rest / 128))) = ap length next.spelled in
    record {
      room = next.after;
      sum = omega (arith, before.sum, next.less);
      some = next.some;
      small = next.small;
      counted = omega (arith, before.counted, size);
    }

pub returns-clause-exact : goal.returns-clause-exact
returns-clause-exact c =
    let before = c.by_seven.invariant in
    let size : length (varint_within before.room c.by_seven.rest) ≡ 1 = ap length (last before.room c.by_seven.rest c.by_seven-test.false before.some) in
    omega (arith, before.counted, size)
