use Rattle.std.proofs.Common.{arith}
use Rattle.jl_io.proofs.CutLemmas.{length-parts_from}
use Rattle.jl_io.proofs.mem_shelf.MemShelf.part.Goals as goal

pub part_of-requires-clause-one : goal.part_of-requires-clause-one
part_of-requires-clause-one c =
    let shelf = c.args.self.now in
    omega (arith, length-parts_from 0 shelf.ends.items shelf.bytes.items, c.deref-2.ensures.len, shelf.ends.ok.0)
