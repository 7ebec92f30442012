use Rattle.std.proofs.Common.{arith}
use Rattle.jl_io.proofs.CutLemmas.{length-parts_from}
use Rattle.jl_io.proofs.mem_shelf.MemShelf.finished.Goals as goal

pub returns : goal.returns
returns c =
    let shelf = c.args.self.now in
    omega (arith, length-parts_from 0 shelf.ends.items shelf.bytes.items, shelf.ends.ok.0)
