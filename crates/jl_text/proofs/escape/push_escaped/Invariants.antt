use Rattle.std.proofs.Common.{length, drop, ◌≡◌, ◌≤◌, ◌++◌, ◌-◌}
use Rattle.jl_text.specs.Escapes.{escaped}
use Rattle.jl_text.proofs.escape.push_escaped.Given as goal

abbrev pub invariant-stretches : goal.invariant-stretches
invariant-stretches l =
    (l.at ≤ length l.text) × (l.out.items ++ escaped l.terminal (drop l.at l.text) ≡ l.fn.out.items ++ escaped l.terminal l.text)

abbrev pub decreases-stretches : goal.decreases-stretches
decreases-stretches l = length l.text - l.at
