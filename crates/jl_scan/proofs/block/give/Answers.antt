use Rattle.std.proofs.Common.{rules}
use Rattle.jl_cells.proofs.KnowledgeLemmas.{learns_known}
use Rattle.jl_scan.proofs.block.give.Goals as goal

pub returns-in-Own-clause-known : goal.returns-in-Own-clause-known
returns-in-Own-clause-known g c =
    let at = learns_known c.args.pass.now c.put.new.pass c.args.i c.put.result.now c.put.ensures.value in
    rw at (search rules)
