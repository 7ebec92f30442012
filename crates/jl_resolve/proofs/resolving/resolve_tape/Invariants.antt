use Rattle.std.proofs.Common.{◌≡◌}
use Rattle.jl_rows.specs.Seen.{options_seen}
use Rattle.jl_state.specs.Lawful.{state_seen, IsLawful}
use Rattle.jl_state.specs.Running.{after_reading}
use Rattle.jl_tape.specs.Tapes.{reading_of}
use Rattle.jl_resolve.specs.Taking.{left_on}
use Rattle.jl_resolve.proofs.Taking.{so_far}
use Rattle.jl_resolve.proofs.resolving.resolve_tape.Given as goal

-- past the first rows
abbrev pub invariant-loop-i : goal.invariant-loop-i
invariant-loop-i l = record {
  said : so_far l.fn.items (options_seen l.bytes l.fn.state.options) (state_seen l.bytes l.fn.state) (reading_of l.bytes l.tape l.fault)
      ≡ so_far l.items (options_seen l.bytes l.fn.state.options) (state_seen l.bytes l.state) (left_on l.bytes l.tape l.i l.fault);
  after : after_reading (options_seen l.bytes l.fn.state.options) (state_seen l.bytes l.fn.state) (reading_of l.bytes l.tape l.fault)
      ≡ after_reading (options_seen l.bytes l.fn.state.options) (state_seen l.bytes l.state) (left_on l.bytes l.tape l.i l.fault);
  lawful : IsLawful l.bytes l.state;
  options : l.state.options ≡ l.fn.state.options;
}
