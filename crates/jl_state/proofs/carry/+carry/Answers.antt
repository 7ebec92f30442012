use Rattle.std.proofs.Common.{arith}
use Rattle.jl_state.specs.declared.known.KnownThree.{KnownThree}
use Rattle.jl_state.proofs.Carrying.{three_carried, three_after}
use Rattle.jl_state.proofs.NestedTerms.{parts_of}
use Rattle.jl_state.proofs.carry.+carry.Goals as goal

pub carry_known-carry_three-requires : goal.carry_known-carry_three-requires
carry_known-carry_three-requires t c = (omega (arith, c.decreases), (c.requires, parts_of c.args.from.now c.args.term.now c.in-Triple.three c.get.result.now c.in-Triple.is c.get.ensures))

pub carry_three-returns-clause-carries : goal.carry_three-returns-clause-carries
carry_three-returns-clause-carries t c =
    let three : KnownThree = record { s = c.in_ok-s.s; p = c.in_ok-p.p; o = c.in_ok-o.o } in
    let done = three_carried c.args.from.now c.args.into.now c.carry_known.new.into c.carry_known-2.new.into c.carry_known-3.new.into c.args.whole.now c.args.three.now three c.carry_known-2.ensures.grows c.carry_known-3.ensures.grows c.requires.parts.value c.in_ok-s.ensures.carries c.in_ok-p.ensures.carries c.in_ok-o.ensures.carries in
    rw c.in_ok-new.ensures done

pub carry_three-returns-clause-after : goal.carry_three-returns-clause-after
carry_three-returns-clause-after t c =
    three_after c.args.from.now c.args.into.now c.carry_known.new.into c.carry_known-2.new.into c.carry_known-3.new.into c.args.whole.now c.args.three.now c.requires.parts.value c.in_ok-s.ensures.after c.in_ok-p.ensures.after c.in_ok-o.ensures.after
