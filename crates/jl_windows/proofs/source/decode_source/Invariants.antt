use Rattle.std.proofs.Common.{◌≡◌, ◌+◌, ◌≤◌, ◌^◌, false, length}
use Rattle.jl_lines.specs.Giving.{outlet}
use Rattle.jl_windows.specs.Steps.{Seeking}
use Rattle.jl_windows.proofs.source.decode_source.Given as goal

-- the windows so far had no rows, and the sink is as it was
abbrev pub invariant-windows : goal.invariant-windows
invariant-windows g l = record {
  seeking : Seeking (g.S.Source.told l.fn.source) (g.S.Source.told l.source) l.fn.left l.left l.window l.feed;
  going : l.feed.ended ≡ false;
  few : length l.feed.held + l.left ≤ 2 ^ 60;
  same : outlet g.K.Sink.held g.K.Sink.faults l.out ≡ outlet g.K.Sink.held g.K.Sink.faults l.fn.out;
}

-- how many bytes may still come
abbrev pub decreases-windows : goal.decreases-windows
decreases-windows g l = length l.feed.held + l.left
