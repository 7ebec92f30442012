use Rattle.std.proofs.Common.{◌-◌, ◌≤◌, length}
use Rattle.jl_lines.specs.Kept.{Keeps}
use Rattle.try_summaries.proofs.stages.write.Given as goal

abbrev pub invariant-by_run : goal.invariant-by_run
invariant-by_run l = record {
  within : l.before ≤ length l.given.frames.now.bodies;
  kept : Keeps l.given.bytes.now l.decoding;
}

abbrev pub decreases-by_run : goal.decreases-by_run
decreases-by_run l = length l.given.frames.now.bodies - l.before
