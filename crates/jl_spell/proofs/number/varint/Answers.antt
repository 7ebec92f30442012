use Rattle.std.proofs.Common.{◌<◌, ◌+◌, ◌/◌, ◌%◌, [], ◌∷◌, length, take, refl, ◌∙◌, arith, append_assoc}
use Rattle.std.proofs.lemmas.List.{take_more_set, length-set}
use Rattle.jl_spell.specs.Varints.{varint_within}
use Rattle.jl_spell.proofs.VarintSteps.{whole, more, last}
use Rattle.jl_spell.proofs.number.varint.Goals as goal

pub by_byte-init : goal.by_byte-init
by_byte-init c = record { room = 10; sum = omega arith; some = omega arith; small = omega (arith, c.ranges.number); size = refl; written = whole c.args.number }

pub by_byte-preserved : goal.by_byte-preserved
by_byte-preserved c =
    let before = c.by_byte.invariant in
    let next = more before.room c.by_byte.rest c.by_byte-test.true before.small in
    let inside : c.by_byte.len < length c.by_byte.held = omega (arith, before.size, before.sum, before.some) in
    let b = 128 + c.by_byte.rest % 128 in
    record {
      room = next.after;
      sum = omega (arith, before.sum, next.less);
      some = next.some;
      small = next.small;
      size = length-set c.by_byte.held c.by_byte.len b ∙ before.size;
      written = rw (take_more_set c.by_byte.held c.by_byte.len b inside, append_assoc (take c.by_byte.len c.by_byte.held) (b ∷ []) (varint_within next.after (c.by_byte.rest / 128)), ← next.spelled) before.written;
    }

pub returns-clause-exact : goal.returns-clause-exact
returns-clause-exact c =
    let before = c.by_byte.invariant in
    let inside : c.by_byte.len < length c.by_byte.held = omega (arith, before.size, before.sum, before.some) in
    rw (take_more_set c.by_byte.held c.by_byte.len c.by_byte.rest inside, ← last before.room c.by_byte.rest c.by_byte-test.false before.some) before.written
