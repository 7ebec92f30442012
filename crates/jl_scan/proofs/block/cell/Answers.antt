use Rattle.std.proofs.Common.{◌+◌, arith}
use Rattle.jl_scan.proofs.BlockLemmas.{edge_above, cell_within}
use Rattle.jl_scan.proofs.block.cell.Goals as goal

pub overflow_add-result : goal.overflow_add-result
overflow_add-result g c =
    let small = c.cells_before.ensures.small in
    let few = c.args.scan.now.few in
    let within = c.requires.within in
    omega (arith, small, few, within, edge_above c.args.level (c.args.k + 1))

pub returns-clause-within : goal.returns-clause-within
returns-clause-within g c =
    let is = c.cells_before.ensures.is in
    let count = c.args.scan.now.count in
    omega (arith, is, count, cell_within c.args.level 33 c.args.scan.now.runs c.args.k c.requires.level c.requires.within)
