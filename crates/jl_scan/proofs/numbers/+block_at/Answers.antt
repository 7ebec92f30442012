use Rattle.std.proofs.Common.{◌+◌, arith}
use Rattle.jl_scan.proofs.BlockLemmas.{edge_up}
use Rattle.jl_scan.proofs.numbers.+block_at.Goals as goal

pub returns-then-a-b-clause-begin : goal.returns-then-a-b-clause-begin
returns-then-a-b-clause-begin t c = let a = c.block_at-at.ensures.begin in omega (arith, edge_up c.block_at-at.result.level c.block_at-at.result.k, a, c.if-a-eq0.true)

pub returns-then-a-b-clause-within : goal.returns-then-a-b-clause-within
returns-then-a-b-clause-within t c = let a = c.block_at-at.ensures.within in omega (arith, edge_up c.block_at-at.result.level (c.block_at-at.result.k + 1), a)
