use Rattle.std.proofs.Common.{arith}
use Rattle.jl_claim.proofs.Allowed.{join_allows}
use Rattle.jl_claim.proofs.table.take_in.Goals as goal

pub join_seat-requires : goal.join_seat-requires
join_seat-requires c =
    let seat = c.args.seat.now in
    let other = c.args.other in (
      c.requires.table.0,
      c.requires.table.1,
      c.requires.seated.2,
      omega arith,
      join_allows c.args.shared.now.key seat.id seat.me.0 c.requires.seated.0 other.id other.me.0 c.requires.seated.1,
    )
