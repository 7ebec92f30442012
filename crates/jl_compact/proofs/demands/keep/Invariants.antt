use Rattle.std.proofs.Common.{length}
use Rattle.jl_sym.specs.Seen.{demands_seen}
use Rattle.jl_compact.proofs.DemandPass.{Front}
use Rattle.jl_compact.proofs.demands.keep.Given as goal

abbrev pub invariant-by_demand : goal.invariant-by_demand
invariant-by_demand l = Front (length l.fn.asked) (demands_seen l.fn.demands) (demands_seen l.kept.items) (demands_seen l.rest) l.asked

abbrev pub decreases-by_demand : goal.decreases-by_demand
decreases-by_demand l = length l.rest
