use Rattle.std.proofs.Common.{◌≡◌, ◌+◌, ◌≤◌, ◌^◌, Bool, ℕ, false, length}
use Rattle.jl_base.specs.Sources.{Told}
use Rattle.jl_lines.specs.Giving.{Outlet, outlet}
use Rattle.jl_lines.specs.Going.{counted}
use Rattle.jl_lines.specs.Kept.{Keeps}
use Rattle.jl_lines.specs.declared.writing.Writing.{Writing}
use Rattle.jl_windows.specs.Steps.{Going}
use Rattle.jl_windows.proofs.window.decode_rest.Given as goal

-- between two windows
abbrev pub invariant-windows : goal.invariant-windows
invariant-windows g l = record {
  going : l.feed.ended ≡ false;
  kept : Keeps l.space l.decoding;
  few : counted l.decoding + length l.feed.held + l.left ≤ 2 ^ 60;
  goes : (writing : Writing) (strict : Bool) (before : Told) (limit size : ℕ) (k : Outlet) → Going writing strict before (g.S.Source.told l.fn.source) limit l.fn.left size l.fn.feed l.fn.space l.fn.decoding k (outlet g.K.Sink.held g.K.Sink.faults l.fn.out)
      → Going writing strict before (g.S.Source.told l.source) limit l.left size l.feed l.space l.decoding k (outlet g.K.Sink.held g.K.Sink.faults l.out);
}

-- how many bytes may still come
abbrev pub decreases-windows : goal.decreases-windows
decreases-windows g l = length l.feed.held + l.left
