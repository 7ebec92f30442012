use Rattle.std.proofs.Common.{arith}
use Rattle.jl_scan.proofs.BlockLemmas.{edge_above}
use Rattle.jl_scan.proofs.numbers.+edge.Goals as goal

pub overflow_mul-k : goal.overflow_mul-k
overflow_mul-k t c = omega (arith, edge_above c.args.level c.args.k)
