use Rattle.std.proofs.Common.{length}
use Rattle.jl_compose.proofs.Leaves.{Appending}
use Rattle.jl_compose.proofs.flat.append_all.Given as goal

abbrev pub invariant-appending : goal.invariant-appending
invariant-appending l = Appending l.fn.bytes l.fn.leaves l.fn.whole l.rest l.whole

abbrev pub decreases-appending : goal.decreases-appending
decreases-appending l = length l.rest
