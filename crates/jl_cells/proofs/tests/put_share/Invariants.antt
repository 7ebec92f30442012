use Rattle.std.proofs.Common.{◌≡◌}
use Rattle.jl_cells.proofs.tests.put_share.Given as goal

abbrev pub invariant-loop-i : goal.invariant-loop-i
invariant-loop-i l = l.pass.cells ≡ l.cells
