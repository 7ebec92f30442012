use Rattle.std.proofs.Common.{arith}
use Rattle.jl_claim.proofs.Allowed.{split_allows}
use Rattle.jl_claim.proofs.table.split_off.Goals as goal

pub split_seat-requires : goal.split_seat-requires
split_seat-requires c =
    let seat = c.args.seat.now in (c.requires.table.0, omega arith, split_allows c.args.shared.now.key seat.id seat.me.0 c.requires.seated c.requires.room)
