use Rattle.std.proofs.Common.{length}
use Rattle.jl_spell.specs.Varints.{varint_of}
use Rattle.jl_base.proofs.SinkLemmas.{Adds-whole, AddsFront-then}
use Rattle.jl_encode.proofs.encoder.write_frame.Goals as goal

pub returns-clause-adds : goal.returns-clause-adds
returns-clause-adds g c =
    let body = c.args.body.now in
    let first = rw c.varint-len.ensures.exact at c.in_ok-write_all.ensures.adds in
    AddsFront-then _ _ _ (varint_of (length body)) body c.write_all-2.result (Adds-whole _ _ (varint_of (length body)) tt first) c.write_all-2.ensures.adds
