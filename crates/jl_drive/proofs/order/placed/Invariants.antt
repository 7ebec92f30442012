use Rattle.std.proofs.Common.{◌≡◌, ℕ, ◌<◌, ◌⊎◌, vec_len, All, Contains, replicate, None}
use Rattle.jl_drive.specs.Pieces.{IsPiece, IsOf, Skipped, runs_of}
use Rattle.jl_drive.specs.Placing.{IsPlaced, IsRight, IsFilled}
use Rattle.jl_drive.proofs.order.placed.Given as goal

abbrev pub invariant-loop : goal.invariant-loop
invariant-loop g l = l.slots.items ≡ replicate l.counter None

abbrev pub decreases-loop-piece : goal.decreases-loop-piece
decreases-loop-piece g l = vec_len l.pieces

abbrev pub invariant-loop-piece : goal.invariant-loop-piece
invariant-loop-piece g l = record {
  count : vec_len l.slots ≡ l.runs;
  right : IsRight (IsPlaced (g.W.Work.knows l.work) (g.W.Work.makes l.work) (g.W.Work.fine l.work) (g.W.Work.faulty l.work) l.owns.items) l.slots.items;
  each : All (IsPiece (g.W.Work.makes l.work) (g.W.Work.fine l.work) (g.W.Work.faulty l.work)) l.pieces.items;
  of : All (IsOf (g.W.Work.knows l.work) l.owns.items) l.pieces.items;
  within : All (λ p. p.run < l.runs) l.pieces.items;
  covered : (k : ℕ) → k < l.runs → IsFilled l.slots.items k ⊎ (Contains (runs_of l.pieces.items) k ⊎ Skipped (g.W.Work.fine l.work) k);
}
