use Rattle.std.proofs.Common.{◌-◌, ◌≤◌, length}
use Rattle.try_summaries.proofs.stages.each.Given as goal

abbrev pub invariant-by_run : goal.invariant-by_run
invariant-by_run l = l.before ≤ length l.given.frames.now.bodies

abbrev pub decreases-by_run : goal.decreases-by_run
decreases-by_run l = length l.given.frames.now.bodies - l.before
