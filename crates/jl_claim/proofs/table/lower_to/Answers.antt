use Rattle.std.proofs.Common.{arith}
use Rattle.jl_claim.proofs.Allowed.{lower_allows}
use Rattle.jl_claim.proofs.table.lower_to.Goals as goal

pub fetch_min-requires : goal.fetch_min-requires
fetch_min-requires c =
    let table = c.args.shared.now in
    let seat = c.args.seat.now in
    (c.requires.table.0, omega arith, lower_allows table.key table.table_id.slots seat.id seat.me c.requires.seated c.args.run c.requires.within c.requires.drawn)
