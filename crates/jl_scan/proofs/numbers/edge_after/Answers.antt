use Rattle.std.proofs.Common.{◌+◌, arith}
use Rattle.jl_scan.proofs.BlockLemmas.{edge_above}
use Rattle.jl_scan.proofs.numbers.edge_after.Goals as goal

pub overflow_add-at : goal.overflow_add-at
overflow_add-at c = omega (arith, edge_above c.args.at.level (c.args.at.k + 1), c.requires)
