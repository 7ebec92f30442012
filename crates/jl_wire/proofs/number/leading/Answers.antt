-- Each return and each step is one lemma on a varint read byte by byte.
use Rattle.std.proofs.Common.{◌+◌, ◌*◌, ◌≡◌, sym, ap, arith}
use Rattle.jl_wire.proofs.VarintSteps.{ended_at, last_at, fits_at, refused_at_tenth, read_at_tenth, more_read}
use Rattle.jl_wire.proofs.number.leading.Goals as goal

pub returns-then-i-bytes-clause-exact : goal.returns-then-i-bytes-clause-exact
returns-then-i-bytes-clause-exact c = sym (ended_at _ _ _ _ (omega arith) (omega arith) c.loop-i.invariant)

pub returns-then-byte-lt128-clause-exact : goal.returns-then-byte-lt128-clause-exact
returns-then-byte-lt128-clause-exact c =
    let number = ap (λ n. c.loop-i.value + n * c.loop-i.scale) c.from.ensures in
    sym (last_at _ _ _ _ _ (omega arith) (omega arith) (omega arith) c.loop-i.invariant number (fits_at _ _ _ _ (omega arith) (omega arith) c.loop-i.invariant))

pub loop-i-preserved : goal.loop-i-preserved
loop-i-preserved c =
    let number = ap (λ n. c.loop-i.value + n * c.loop-i.scale) c.from-in-loop-i.ensures in
    more_read _ _ _ _ _ (omega arith) (omega arith) (omega arith) (omega (arith, c.type_inv.bytes c.loop-i.i)) c.loop-i.invariant number

pub returns-then-bytes-lt10-clause-exact : goal.returns-then-bytes-lt10-clause-exact
returns-then-bytes-lt10-clause-exact c =
    let nine : c.loop-i.i ≡ 9 = omega arith in
    sym (ended_at _ c.loop-i.i _ _ (omega arith) (omega arith) c.loop-i.invariant)

pub returns-then-tenth-gt1-clause-exact : goal.returns-then-tenth-gt1-clause-exact
returns-then-tenth-gt1-clause-exact c = sym (refused_at_tenth _ _ _ _ (omega arith) (omega arith) (omega arith) c.loop-i.invariant)

pub returns-clause-exact : goal.returns-clause-exact
returns-clause-exact c =
    let number = ap (λ n. c.loop-i.value + n * c.loop-i.scale) c.from-2.ensures in
    sym (read_at_tenth _ _ _ _ _ (omega arith) (omega arith) (omega arith) c.loop-i.invariant number)
