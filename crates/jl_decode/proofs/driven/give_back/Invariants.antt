use Rattle.std.proofs.Common.{◌≡◌, ◌<◌, All, vec_len}
use Rattle.jl_decode.proofs.driven.give_back.Given as goal

abbrev pub decreases-loop-piece : goal.decreases-loop-piece
decreases-loop-piece l = vec_len l.pieces

abbrev pub invariant-loop-piece : goal.invariant-loop-piece
invariant-loop-piece l = record {
  count : vec_len l.kept ≡ vec_len l.fn.kept;
  workers : All (λ p. p.worker < vec_len l.fn.kept) l.pieces.items;
}
