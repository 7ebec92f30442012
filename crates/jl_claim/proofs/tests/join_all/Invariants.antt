use Rattle.std.proofs.Common.{◌≡◌, ◌+◌, All, IfOk, vec_len}
use Rattle.jl_claim.proofs.tests.join_all.Given as goal

abbrev pub decreases-loop-next : goal.decreases-loop-next
decreases-loop-next l = vec_len l.done

abbrev pub invariant-loop-next : goal.invariant-loop-next
invariant-loop-next l = record {
  board : l.all.seat.board ≡ l.board;
  seats : l.all.seat.seats + vec_len l.done ≡ vec_len l.fn.done;
  room : l.all.seat.room ≡ 0;
  rest : All (λ r. IfOk r (λ drawn. (drawn.seat.board ≡ l.board) × (drawn.seat.seats ≡ 1) × (drawn.seat.room ≡ 0))) l.done.items;
}
