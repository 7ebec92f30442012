use Rattle.std.proofs.Common.{◌+◌, ◌*◌}
use Rattle.jl_nqscan.proofs.parts.+parts.Given as goal

abbrev pub decreases-scan_part : goal.decreases-scan_part
decreases-scan_part g l = 2 * l.workers + 1

abbrev pub decreases-left : goal.decreases-left
decreases-left g l = 2 * l.some + 2

abbrev pub decreases-right : goal.decreases-right
decreases-right g l = 2 * l.others + 2
