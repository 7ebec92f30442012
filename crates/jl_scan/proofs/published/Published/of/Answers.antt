use Rattle.std.proofs.Common.{arith}
use Rattle.jl_scan.proofs.published.Published.of.Goals as goal

pub overflow_add-result : goal.overflow_add-result
overflow_add-result g c = let within = c.requires.within in let all = c.runs-runs.ensures in omega (arith, within, all)
