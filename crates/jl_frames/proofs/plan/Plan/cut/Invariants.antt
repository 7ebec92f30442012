use Rattle.std.proofs.Common.{◌-◌}
use Rattle.jl_frames.proofs.RunLemmas.{Runs}
use Rattle.jl_frames.proofs.plan.Plan.cut.Given as goal

abbrev pub invariant-by_run : goal.invariant-by_run
invariant-by_run l = Runs l.frames l.per l.runs.items l.before l.lo

abbrev pub decreases-by_run : goal.decreases-by_run
decreases-by_run l = l.count - l.before
