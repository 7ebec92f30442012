use Rattle.std.proofs.Common.{◌-◌, ◌≤◌, length}
use Rattle.jl_nqscan.proofs.Going.{Going}
use Rattle.jl_nqscan.proofs.piece.scan_piece.Given as goal

abbrev pub invariant-lines : goal.invariant-lines
invariant-lines l = Going l.piece l.at l.feeds l.scan × (l.feeds ≤ l.at) × (l.feeds ≤ length l.piece) × (l.scan.statements ≤ l.at) × (l.scan.statements ≤ length l.piece)

abbrev pub decreases-lines : goal.decreases-lines
decreases-lines l = length l.piece - l.at
