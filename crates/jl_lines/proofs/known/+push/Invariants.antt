use Rattle.std.proofs.Common.{◌+◌, ◌*◌}
use Rattle.jl_state.specs.KnownTerms.{known_value, depth}
use Rattle.jl_lines.proofs.known.+push.Given as goal

abbrev pub decreases-push_known : goal.decreases-push_known
decreases-push_known l = 2 * depth (known_value l.bytes.now l.term.now) + 1

abbrev pub decreases-push_three : goal.decreases-push_three
decreases-push_three l = 2 * depth (known_value l.bytes.now l.whole.now)
