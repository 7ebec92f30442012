use Rattle.std.proofs.Common.{ℕ, List, length}
use Rattle.jl_sym.specs.Seen.{summary_seen}
use Rattle.jl_compose.proofs.Pushing.{Demanded}
use Rattle.jl_compose.proofs.demands.push_demands.Given as goal

abbrev pub invariant-demands : goal.invariant-demands
invariant-demands l = (bytes : List ℕ) → Demanded (summary_seen bytes l.fn.first) l.fn.rows l.fn.out.items l.fn.demands l.out.items l.rest

abbrev pub decreases-demands : goal.decreases-demands
decreases-demands l = length l.rest
