use Rattle.std.proofs.Common.{length}
use Rattle.jl_compose.proofs.Leaves.{Acting}
use Rattle.jl_compose.proofs.block.Block.apply_in.Given as goal

abbrev pub invariant-leaves : goal.invariant-leaves
invariant-leaves l = Acting l.fn.bytes l.fn.self.leaves.items l.fn.state l.rest l.state

abbrev pub decreases-leaves : goal.decreases-leaves
decreases-leaves l = length l.rest
