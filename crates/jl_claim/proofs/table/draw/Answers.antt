use Rattle.std.proofs.Common.{arith}
use Rattle.jl_claim.proofs.Allowed.{claim_allows}
use Rattle.jl_claim.proofs.table.draw.Goals as goal

pub fetch_add-requires : goal.fetch_add-requires
fetch_add-requires c =
    let table = c.args.shared.now in
    let seat = c.args.seat.now in
    (c.requires.table.0, omega arith, claim_allows table.key table.table_id.slots seat.id seat.me c.requires.seated c.requires.small c.requires.below)
