use Rattle.jl_state.specs.Lawful.{IsLawful}
use Rattle.jl_resolve.proofs.tests.all_lines.Given as goal

abbrev pub invariant-loop-i : goal.invariant-loop-i
invariant-loop-i l = IsLawful l.space l.state
