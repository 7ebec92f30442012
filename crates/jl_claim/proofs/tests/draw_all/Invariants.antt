use Rattle.std.proofs.Common.{◌≡◌, ◌<◌, All}
use Rattle.jl_claim.proofs.tests.draw_all.Given as goal

abbrev pub invariant-loop : goal.invariant-loop
invariant-loop l = record {
  board : l.seat.board ≡ l.board;
  bound : l.seat.bound ≡ 10000;
  seats : l.seat.seats ≡ 1;
  room : l.seat.room ≡ 0;
  below : All (λ x. x < 10000) l.seat.drawn;
}
