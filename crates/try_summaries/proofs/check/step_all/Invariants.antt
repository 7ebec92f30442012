use Rattle.jl_state.specs.Lawful.{IsLawful}
use Rattle.try_summaries.proofs.check.step_all.Given as goal

abbrev pub invariant-loop-i : goal.invariant-loop-i
invariant-loop-i l = IsLawful l.given.bytes.now l.state
