use Rattle.std.proofs.Common.{◌-◌, ◌≡◌, ◌+◌, ◌≤◌, ◌^◌, List, ◌++◌, All}
use Rattle.jl_cells.specs.Knowledge.{Keeps}
use Rattle.jl_scan.specs.Blocks.{Block}
use Rattle.jl_scan.specs.Walk.{walk}
use Rattle.jl_scan.specs.Costs.{cost_of, through}
use Rattle.jl_scan.specs.Fields.{frames_of}
use Rattle.jl_scan.specs.Reaching.{IsKnown, is_at_hand}
use Rattle.jl_scan.proofs.reaching.know_walk.Given as goal

abbrev pub decreases-by_block : goal.decreases-by_block
decreases-by_block g l = l.to - l.a

abbrev pub invariant-by_block : goal.invariant-by_block
invariant-by_block g l = record {
  order : l.a ≤ l.to;
  cells : l.pass.cells ≡ l.scan.cells;
  kept : Keeps l.fn.pass l.pass;
  done : (bs : List Block) × (bs ++ walk l.a l.to ≡ walk l.from l.to) × All (IsKnown l.scan.runs l.pass.known) bs;
  ticks : l.steps + cost_of (is_at_hand l.scan.runs l.fn.pass.known) (frames_of g.F.Scanned.field) (walk l.a l.to)
      ≤ l.fn.steps + cost_of (is_at_hand l.scan.runs l.fn.pass.known) (frames_of g.F.Scanned.field) (walk l.from l.to);
  room : l.steps + through (frames_of g.F.Scanned.field) l.to ≤ 2 ^ 63 + through (frames_of g.F.Scanned.field) l.a;
}
