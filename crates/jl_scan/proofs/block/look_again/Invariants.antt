use Rattle.std.proofs.Common.{◌≡◌}
use Rattle.jl_cells.specs.Knowledge.{Keeps}
use Rattle.jl_scan.proofs.block.look_again.Given as goal

abbrev pub invariant-loop-i : goal.invariant-loop-i
invariant-loop-i g l = record {
  cells : l.pass.cells ≡ l.scan.cells;
  kept : Keeps l.fn.pass l.pass;
}
