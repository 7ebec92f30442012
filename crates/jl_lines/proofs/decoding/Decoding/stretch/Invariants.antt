use Rattle.std.proofs.Common.{◌≡◌, ◌+◌, ◌-◌, ◌≤◌}
use Rattle.jl_base.specs.Results.{Reading}
use Rattle.jl_base.specs.declared.place.Fault.{Fault}
use Rattle.jl_rows.specs.Files.{Placed}
use Rattle.jl_lines.specs.Kept.{Keeps}
use Rattle.jl_lines.specs.Going.{counted, outcome}
use Rattle.jl_lines.specs.Stretches.{IsStand, left_from, reach_of}
use Rattle.jl_lines.proofs.decoding.Decoding.stretch.Given as goal

-- from one stand to another
abbrev pub invariant-by_frame : goal.invariant-by_frame
invariant-by_frame l = record {
  is : IsStand l.frames l.stand l.end;
  far : reach_of l.frames l.fn.from ≤ reach_of l.frames l.stand;
  few : counted l.self + reach_of l.frames l.fn.from ≤ counted l.fn.self + reach_of l.frames l.stand;
  went : (B : Reading Placed Fault) → outcome l.bytes l.fn.self (left_from l.bytes l.frames l.fn.from l.end B) ≡ outcome l.bytes l.self (left_from l.bytes l.frames l.stand l.end B);
  kept : Keeps l.bytes l.self;
  options : l.self.state.options ≡ l.fn.self.state.options;
  writing : l.self.writing ≡ l.fn.self.writing;
}

abbrev pub decreases-by_frame : goal.decreases-by_frame
decreases-by_frame l = l.end - l.stand.frame
