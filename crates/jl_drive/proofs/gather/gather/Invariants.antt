use Rattle.std.proofs.Common.{◌≡◌, ℕ, ◌+◌, ◌≤◌, vec_len, All, IfOk}
use Rattle.jl_drive.specs.Working.{AtEach, IsDone, IsGathered}
use Rattle.jl_drive.proofs.gather.gather.Given as goal

abbrev pub decreases-loop-next : goal.decreases-loop-next
decreases-loop-next g l = vec_len l.rest

abbrev pub invariant-loop-next : goal.invariant-loop-next
invariant-loop-next g l = record {
  count : (c : ℕ) × (1 ≤ c) × (c + vec_len l.rest ≡ l.workers) × IsGathered (g.W.Work.fits l.work) (g.W.Work.knows l.work) (g.W.Work.makes l.work) (g.W.Work.fine l.work) (g.W.Work.faulty l.work) (g.W.Work.count l.work) l.workers l.board c l.all;
  each : All (λ r. IfOk r (λ d. IsDone (g.W.Work.fits l.work) (g.W.Work.knows l.work) (g.W.Work.makes l.work) (g.W.Work.fine l.work) (g.W.Work.faulty l.work) (g.W.Work.count l.work) l.workers l.board d)) l.rest.items;
  numbers : AtEach (λ i r. IfOk r (λ d. d.number + i + 1 ≡ l.workers)) l.rest.items;
}
