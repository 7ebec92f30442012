use Rattle.std.proofs.Common.{ℕ, List, length}
use Rattle.jl_rows.specs.Seen.{options_seen}
use Rattle.jl_compact.proofs.Inside.{Until}
use Rattle.jl_compact.proofs.cutting.demands_inside.Given as goal

abbrev pub invariant-by_demand : goal.invariant-by_demand
invariant-by_demand l = (bytes : List ℕ) → Until (options_seen bytes l.fn.options) l.fn.demands l.inside.items l.rest

abbrev pub decreases-by_demand : goal.decreases-by_demand
decreases-by_demand l = length l.rest
