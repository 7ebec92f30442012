use Rattle.std.proofs.Common.{◌≡◌, ◌+◌, All, vec_len}
use Rattle.jl_claim.specs.Standing.{Standing, new_seat}
use Rattle.jl_claim.proofs.tests.all_seats.Given as goal

abbrev pub invariant-loop : goal.invariant-loop
invariant-loop l = record {
  count : vec_len l.seats ≡ l.counter;
  room : l.first.room + l.counter ≡ 63;
  first : l.first ≡ new_seat l.board 10000 l.first.room;
  new : All (λ (seat : Standing). seat ≡ new_seat l.board 10000 0) l.seats.items;
}
