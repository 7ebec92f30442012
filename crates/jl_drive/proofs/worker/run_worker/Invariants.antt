use Rattle.std.proofs.Common.{◌≡◌, ℕ, ◌+◌, ◌-◌, ◌<◌, ◌≤◌, All, Contains}
use Rattle.jl_drive.specs.Working.{IsWorked, IsMine, room_of}
use Rattle.jl_drive.proofs.worker.run_worker.Given as goal

abbrev pub decreases-draws : goal.decreases-draws
decreases-draws g l = g.W.Work.count l.work - l.passed

abbrev pub invariant-draws : goal.invariant-draws
invariant-draws g l = record {
  passed : l.passed ≤ g.W.Work.count l.work;
  board : l.seat.board ≡ l.board;
  bound : l.seat.bound ≡ g.W.Work.count l.work;
  seats : l.seat.seats ≡ 1;
  room : l.seat.room ≡ room_of l.workers l.number;
  below : All (λ x. x < l.passed) l.seat.drawn;
  last : (x : ℕ) → l.passed ≡ x + 1 → Contains l.seat.drawn x;
  fits : g.W.Work.fits l.work l.own;
  worked : IsWorked (g.W.Work.makes l.work) (g.W.Work.fine l.work) (g.W.Work.faulty l.work) (g.W.Work.count l.work) l.seat.drawn l.seat.lowered l.seat.seen l.pieces.items;
  mine : All (IsMine (g.W.Work.knows l.work) l.number l.own) l.pieces.items;
}
