use Rattle.std.proofs.Common.{length}
use Rattle.jl_apply.proofs.Loops.{Going}
use Rattle.jl_apply.proofs.log.go_to.Given as goal

abbrev pub invariant-demands : goal.invariant-demands
invariant-demands l = Going l.fn.bytes l.fn.incoming l.fn.tables l.fn.rest.writes.now l.fn.rest.demands.now l.fn.moment l.tables l.writes l.demands

abbrev pub decreases-demands : goal.decreases-demands
decreases-demands l = length l.demands
