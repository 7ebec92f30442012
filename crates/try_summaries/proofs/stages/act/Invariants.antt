use Rattle.std.proofs.Common.{◌≡◌, ◌-◌, ◌≤◌, length}
use Rattle.jl_rows.specs.Seen.{options_seen}
use Rattle.jl_state.specs.Lawful.{state_seen, IsLawful}
use Rattle.jl_sym_laws.specs.Staying.{IsSettled}
use Rattle.try_summaries.proofs.stages.act.Given as goal

abbrev pub invariant-by_run : goal.invariant-by_run
invariant-by_run l = record {
  within : l.before ≤ length l.given.frames.now.bodies;
  state : IsLawful l.given.bytes.now l.state;
  settled : IsSettled (options_seen l.given.bytes.now l.state.options) (state_seen l.given.bytes.now l.state);
  options : l.state.options ≡ l.given.options.now;
}

abbrev pub decreases-by_run : goal.decreases-by_run
decreases-by_run l = length l.given.frames.now.bodies - l.before
