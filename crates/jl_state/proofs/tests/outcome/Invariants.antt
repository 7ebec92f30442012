use Rattle.std.proofs.Common.{◌-◌, ◌≤◌, length}
use Rattle.jl_state.specs.Lawful.{IsLawful}
use Rattle.jl_state.proofs.tests.outcome.Given as goal

abbrev pub invariant-by_row : goal.invariant-by_row
invariant-by_row g l = IsLawful l.fn.rows l.state × (l.stated ≤ l.at) × (l.at ≤ length l.fn.rows)

abbrev pub decreases-by_row : goal.decreases-by_row
decreases-by_row g l = length l.fn.rows - l.at
