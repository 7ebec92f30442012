use Rattle.std.proofs.Common.{arith}
use Rattle.jl_claim.proofs.Allowed.{least_allows}
use Rattle.jl_claim.proofs.table.read_least.Goals as goal

pub load-requires : goal.load-requires
load-requires c =
    let table = c.args.shared.now in
    let seat = c.args.seat.now in
    (c.requires.table.0, omega arith, least_allows table.key table.table_id.slots seat.id seat.me c.requires.seated)
