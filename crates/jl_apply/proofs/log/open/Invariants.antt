use Rattle.std.proofs.Common.{length}
use Rattle.jl_apply.proofs.Loops.{Opening}
use Rattle.jl_apply.proofs.log.open.Given as goal

abbrev pub invariant-demands : goal.invariant-demands
invariant-demands l = Opening l.fn.lookup.bytes.now l.fn.incoming l.fn.lookup.tables.now l.fn.demands l.rest

abbrev pub decreases-demands : goal.decreases-demands
decreases-demands l = length l.rest
