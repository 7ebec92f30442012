use Rattle.std.proofs.Common.{length}
use Rattle.jl_compose.proofs.Leaves.{Counting}
use Rattle.jl_compose.proofs.size.size_of.Given as goal

abbrev pub invariant-counting : goal.invariant-counting
invariant-counting l = Counting l.fn.leaves l.rest l.writes l.demands

abbrev pub decreases-counting : goal.decreases-counting
decreases-counting l = length l.rest
