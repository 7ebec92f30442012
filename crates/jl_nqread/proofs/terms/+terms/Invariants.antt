use Rattle.std.proofs.Common.{◌+◌, ◌*◌}
use Rattle.jl_nqread.proofs.terms.+terms.Given as goal

abbrev pub decreases-term : goal.decreases-term
decreases-term l = 2 * l.depth

abbrev pub decreases-three_terms : goal.decreases-three_terms
decreases-three_terms l = 2 * l.depth + 1
