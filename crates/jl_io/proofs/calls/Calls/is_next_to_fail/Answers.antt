use Rattle.std.proofs.Common.{◌+◌, ◌≤◌, ◌^◌, sym, ◌∙◌, ap, arith}
use Rattle.jl_io.specs.Schedules.{is_to_fail}
use Rattle.jl_io.proofs.ScheduleLemmas.{list_any-above}
use Rattle.jl_io.proofs.calls.Calls.is_next_to_fail.Goals as goal

-- every listed number is below 2^64
pub returns-in_default-clause-answer : goal.returns-in_default-clause-answer
returns-in_default-clause-answer c =
    let full : 2 ^ 64 ≤ c.self.inside.made + 1 = omega (arith, c.in_default.ensures {u = tt}) in
    sym (ap is_to_fail (sym c.self.view_is) ∙ list_any-above c.self.inside.fails.items (2 ^ 64) (c.self.inside.made + 1) c.self.invariant full)
