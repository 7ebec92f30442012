use Rattle.std.proofs.Common.{◌≡◌, ℕ, ◌<◌, ◌≤◌, ◌⊎◌, vec_len, All, None}
use Rattle.jl_drive.specs.Pieces.{IsPiece, IsOf, Skipped}
use Rattle.jl_drive.specs.Working.{AtEach}
use Rattle.jl_drive.specs.Placing.{IsPlaced, IsRight, IsFilled}
use Rattle.jl_drive.proofs.order.taken.Given as goal

abbrev pub invariant-loop-k : goal.invariant-loop-k
invariant-loop-k g l = record {
  count : vec_len l.slots ≡ l.runs;
  right : IsRight (IsPlaced (g.W.Work.knows l.work) (g.W.Work.makes l.work) (g.W.Work.fine l.work) (g.W.Work.faulty l.work) l.owns.items) l.slots.items;
  covered : (k : ℕ) → l.k ≤ k → k < l.runs → IsFilled l.slots.items k ⊎ Skipped (g.W.Work.fine l.work) k;
  taken : vec_len l.pieces ≡ l.k;
  runs : AtEach (λ i p. p.run ≡ i) l.pieces.items;
  each : All (IsPiece (g.W.Work.makes l.work) (g.W.Work.fine l.work) (g.W.Work.faulty l.work)) l.pieces.items;
  of : All (IsOf (g.W.Work.knows l.work) l.owns.items) l.pieces.items;
  none : All (λ p. p.fault ≡ None) l.pieces.items;
  fine : (j : ℕ) → j < l.k → g.W.Work.fine l.work j;
}
