use Rattle.std.proofs.Common.{◌≡◌, length, arith}
use Rattle.jl_base.proofs.ReadLemmas.{read_in}
use Rattle.jl_base.proofs.room.read_at.Goals as goal

pub returns-clause-reads : goal.returns-clause-reads
returns-clause-reads g c =
    let whole = c.deref_mut.ensures.value in
    let len = c.deref_mut.ensures.len in
    let size : length c.read.new.buf ≡ c.args.most = omega (arith, c.read.auto.buf, whole, len) in
    rw whole (read_in c.args.page.now.items c.read.new.buf _ _ c.args.at c.args.page.now.len (omega (arith, c.args.page.now.ok.0)) (omega (arith, size)) c.args.most _ _ c.read.result (omega (arith, size)) (omega (arith, size)) c.read.ensures.bound c.read.ensures.read c.read.ensures.end c.read.ensures.cause)
