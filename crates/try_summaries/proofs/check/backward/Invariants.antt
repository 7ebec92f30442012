use Rattle.std.proofs.Common.{◌-◌, ◌≤◌, length}
use Rattle.jl_rows.specs.Seen.{options_seen}
use Rattle.jl_sym.specs.Lawful.{IsLawful}
use Rattle.try_summaries.proofs.check.backward.Given as goal

abbrev pub invariant-by_run : goal.invariant-by_run
invariant-by_run l = record {
  within : l.left ≤ length l.given.frames.now.bodies;
  lawful : IsLawful (options_seen l.given.bytes.now l.given.options.now) l.given.bytes.now l.whole;
}

abbrev pub decreases-by_run : goal.decreases-by_run
decreases-by_run l = l.left
