use Rattle.std.proofs.Common.{◌+◌, ◌*◌}
use Rattle.jl_state.specs.KnownTerms.{known_value, depth}
use Rattle.jl_state.proofs.carry.+carry.Given as goal

abbrev pub decreases-carry_known : goal.decreases-carry_known
decreases-carry_known l = 2 * depth (known_value l.from.now l.term.now) + 1

abbrev pub decreases-carry_three : goal.decreases-carry_three
decreases-carry_three l = 2 * depth (known_value l.from.now l.whole.now)
