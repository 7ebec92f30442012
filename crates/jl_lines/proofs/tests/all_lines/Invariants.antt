use Rattle.jl_state.specs.Lawful.{IsLawful}
use Rattle.jl_lines.proofs.tests.all_lines.Given as goal

abbrev pub invariant-loop-i : goal.invariant-loop-i
invariant-loop-i g l = IsLawful l.space l.decoding.state
