use Rattle.std.proofs.Common.{◌+◌, ◌*◌}
use Rattle.jl_state.specs.KnownTerms.{known_value, depth}
use Rattle.jl_resolve.proofs.terms.+own.Given as goal

abbrev pub decreases-term : goal.decreases-term
decreases-term l = 2 * depth (known_value l.bytes.now l.known.now) + 1

abbrev pub decreases-triple_term : goal.decreases-triple_term
decreases-triple_term l = 2 * depth (known_value l.bytes.now l.whole.now)
