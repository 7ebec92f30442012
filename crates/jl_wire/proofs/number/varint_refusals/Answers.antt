use Rattle.std.proofs.Common.{arith}
use Rattle.jl_wire.proofs.RefusalLaws.{refuses_exactly}
use Rattle.jl_wire.proofs.number.varint_refusals.Goals as goal

pub returns : goal.returns
returns c = refuses_exactly _ (λ k. omega (arith, c.type_inv.bytes k))
