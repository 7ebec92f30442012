use Rattle.std.proofs.Common.{◌≡◌, ◌+◌, ◌-◌, ◌≤◌}
use Rattle.jl_base.specs.Results.{Reading}
use Rattle.jl_base.specs.declared.place.Fault.{Fault}
use Rattle.jl_rows.specs.Files.{Placed}
use Rattle.jl_lines.specs.Kept.{Keeps}
use Rattle.jl_lines.specs.Going.{counted, outcome}
use Rattle.jl_lines.specs.Stretches.{rest_of}
use Rattle.jl_lines.proofs.decoding.Decoding.rows.Given as goal

-- from the first row to the one at this place
abbrev pub invariant-by_row : goal.invariant-by_row
invariant-by_row l = record {
  start : l.at ≤ l.place;
  inside : l.place ≤ l.frame.end;
  rows : l.count + l.at ≤ l.before + l.place;
  few : counted l.self + l.at ≤ counted l.fn.self + l.place;
  went : (B : Reading Placed Fault) → outcome l.bytes l.fn.self (rest_of l.bytes l.frame l.before l.at B) ≡ outcome l.bytes l.self (rest_of l.bytes l.frame l.count l.place B);
  kept : Keeps l.bytes l.self;
  options : l.self.state.options ≡ l.fn.self.state.options;
  writing : l.self.writing ≡ l.fn.self.writing;
}

abbrev pub decreases-by_row : goal.decreases-by_row
decreases-by_row l = l.frame.end - l.place
