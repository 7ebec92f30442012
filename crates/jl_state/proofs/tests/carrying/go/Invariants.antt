use Rattle.std.proofs.Common.{◌-◌, ◌≤◌, length}
use Rattle.jl_state.specs.Lawful.{IsLawful}
use Rattle.jl_state.proofs.tests.carrying.go.Given as goal

abbrev pub invariant-by_row : goal.invariant-by_row
invariant-by_row l = record {
  lawful : IsLawful l.rows l.state;
  inside : l.at ≤ length l.rows;
}

abbrev pub decreases-by_row : goal.decreases-by_row
decreases-by_row l = length l.rows - l.at
