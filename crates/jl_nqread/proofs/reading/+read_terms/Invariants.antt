use Rattle.std.proofs.Common.{◌+◌, ◌*◌}
use Rattle.jl_nqread.proofs.reading.+read_terms.Given as goal

abbrev pub decreases-read_term : goal.decreases-read_term
decreases-read_term l = 2 * l.depth

abbrev pub decreases-read_three : goal.decreases-read_three
decreases-read_three l = 2 * l.depth + 1
