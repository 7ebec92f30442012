use Rattle.std.proofs.Common.{◌+◌, arith}
use Rattle.jl_scan.proofs.BlockLemmas.{edge_above, edge_rises}
use Rattle.jl_scan.proofs.numbers.bounds.Goals as goal

pub edge-requires : goal.edge-requires
edge-requires c = let within = c.requires in omega (arith, within, edge_rises c.args.level c.args.k)

pub overflow_add-k : goal.overflow_add-k
overflow_add-k c = let within = c.requires in omega (arith, within, edge_above c.args.level (c.args.k + 1))
