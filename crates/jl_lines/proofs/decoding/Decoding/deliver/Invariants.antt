use Rattle.std.proofs.Common.{◌≡◌, ◌+◌, ◌-◌, ◌≤◌}
use Rattle.jl_base.specs.Results.{Reading}
use Rattle.jl_base.specs.declared.place.Fault.{Fault}
use Rattle.jl_rows.specs.Files.{Placed}
use Rattle.jl_frames.specs.Index.{behind}
use Rattle.jl_lines.specs.Kept.{Keeps}
use Rattle.jl_lines.specs.Going.{counted, outcome}
use Rattle.jl_lines.specs.Giving.{Passes, outlet}
use Rattle.jl_frames.specs.Stretches.{between}
use Rattle.jl_lines.specs.Stretches.{IsStand, left_from, reach_of}
use Rattle.jl_lines.proofs.decoding.Decoding.deliver.Given as goal

-- from the first frame to a stand
abbrev pub invariant-by_page : goal.invariant-by_page
invariant-by_page g l = record {
  is : IsStand l.frames l.stand l.end;
  far : behind l.frames l.fn.begin ≤ reach_of l.frames l.stand;
  few : counted l.self + behind l.frames l.fn.begin ≤ counted l.fn.self + reach_of l.frames l.stand;
  went : (B : Reading Placed Fault) → Passes (outcome l.bytes l.fn.self (between l.bytes l.frames l.fn.begin l.end B)) (outlet g.K.Sink.held g.K.Sink.faults l.fn.out) (outlet g.K.Sink.held g.K.Sink.faults l.out) (outcome l.bytes l.self (left_from l.bytes l.frames l.stand l.end B));
  kept : Keeps l.bytes l.self;
  options : l.self.state.options ≡ l.fn.self.state.options;
  writing : l.self.writing ≡ l.fn.self.writing;
}

abbrev pub decreases-by_page : goal.decreases-by_page
decreases-by_page g l = behind l.frames l.end - reach_of l.frames l.stand
