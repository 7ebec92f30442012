use Rattle.std.proofs.Common.{◌≡◌, ◌+◌}
use Rattle.jl_sym.proofs.of_run.tick_all.Given as goal

abbrev pub invariant-loop-i : goal.invariant-loop-i
invariant-loop-i g l = l.steps ≡ l.fn.steps + l._i
