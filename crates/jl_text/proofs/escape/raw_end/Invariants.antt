use Rattle.std.proofs.Common.{length, ◌-◌}
use Rattle.jl_text.specs.Escapes.{RawUpTo}
use Rattle.jl_text.proofs.escape.raw_end.Given as goal

abbrev pub invariant-loop-end : goal.invariant-loop-end
invariant-loop-end l = RawUpTo l.terminal l.text l.at l.end

abbrev pub decreases-loop-end : goal.decreases-loop-end
decreases-loop-end l = length l.text - l.end
