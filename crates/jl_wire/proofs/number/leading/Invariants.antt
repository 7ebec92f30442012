use Rattle.jl_wire.proofs.VarintSteps.{HasRead}
use Rattle.jl_wire.proofs.number.leading.Given as goal

abbrev pub invariant-loop-i : goal.invariant-loop-i
invariant-loop-i l = HasRead l.bytes l.i l.value l.scale
