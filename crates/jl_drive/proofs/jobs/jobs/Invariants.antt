use Rattle.std.proofs.Common.{◌≡◌, ◌+◌, ◌<◌, vec_len, All}
use Rattle.jl_claim.specs.Standing.{new_seat}
use Rattle.jl_drive.specs.Working.{AtEach, IsJob}
use Rattle.jl_drive.proofs.jobs.jobs.Given as goal

abbrev pub decreases-by_worker : goal.decreases-by_worker
decreases-by_worker g l = vec_len l.owns

abbrev pub invariant-by_worker : goal.invariant-by_worker
invariant-by_worker g l = record {
  some : 0 < vec_len l.owns;
  count : vec_len l.jobs + vec_len l.owns ≡ vec_len l.fn.owns;
  seat : l.seat ≡ new_seat l.board (g.W.Work.count l.work) l.seat.room;
  room : l.seat.room + vec_len l.jobs ≡ 63;
  owns : All (g.W.Work.fits l.work) l.owns.items;
  each : All (IsJob (g.W.Work.fits l.work) (g.W.Work.count l.work) (vec_len l.fn.owns) l.board) l.jobs.items;
  numbers : AtEach (λ i job. job.number + i + 1 ≡ vec_len l.fn.owns) l.jobs.items;
}
