use Rattle.std.proofs.Common.{◌+◌, arith}
use Rattle.jl_scan.proofs.BlockLemmas.{edge_above, halves_first}
use Rattle.jl_scan.proofs.numbers.halves.Goals as goal

pub overflow_mul-result : goal.overflow_mul-result
overflow_mul-result c = let w = c.requires.within in omega (arith, edge_above c.args.level (c.args.k + 1), w)

pub overflow_mul-result-2 : goal.overflow_mul-result-2
overflow_mul-result-2 c = let w = c.requires.within in omega (arith, edge_above c.args.level (c.args.k + 1), w)

pub overflow_add-result : goal.overflow_add-result
overflow_add-result c = let w = c.requires.within in omega (arith, edge_above c.args.level (c.args.k + 1), w)

pub returns-clause-first : goal.returns-clause-first
returns-clause-first c = halves_first c.args.level c.args.k c.args.runs c.requires.some c.requires.within.0
