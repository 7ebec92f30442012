use Rattle.std.proofs.Common.{◌≡◌, ◌+◌, ◌≤◌}
use Rattle.jl_base.specs.Results.{Reading, joined}
use Rattle.jl_base.specs.declared.place.Fault.{Fault}
use Rattle.jl_rows.specs.Files.{Placed}
use Rattle.jl_rows.specs.Seen.{options_seen}
use Rattle.jl_state.specs.Lawful.{state_seen}
use Rattle.jl_state.specs.Running.{after_reading}
use Rattle.jl_tape.specs.Tapes.{reading_of}
use Rattle.jl_lines.specs.Kept.{Keeps}
use Rattle.jl_lines.specs.Going.{counted, outcome}
use Rattle.jl_lines.specs.Taped.{left_on}
use Rattle.jl_lines.proofs.decoding.Decoding.taped.Given as goal

-- past the first rows
abbrev pub invariant-loop-i : goal.invariant-loop-i
invariant-loop-i l = record {
  went : (B : Reading Placed Fault) → outcome l.bytes l.fn.self (joined (reading_of l.bytes l.tape l.fault) B) ≡ outcome l.bytes l.self (joined (left_on l.bytes l.tape l.i l.fault) B);
  state : after_reading (options_seen l.bytes l.fn.self.state.options) (state_seen l.bytes l.fn.self.state) (reading_of l.bytes l.tape l.fault)
      ≡ after_reading (options_seen l.bytes l.fn.self.state.options) (state_seen l.bytes l.self.state) (left_on l.bytes l.tape l.i l.fault);
  few : counted l.self ≤ counted l.fn.self + l.i;
  kept : Keeps l.bytes l.self;
  options : l.self.state.options ≡ l.fn.self.state.options;
  writing : l.self.writing ≡ l.fn.self.writing;
}
