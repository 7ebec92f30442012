use Rattle.std.proofs.Common.{◌≡◌, ◌-◌, ◌≤◌, length, drop}
use Rattle.jl_nqread.specs.Grammar.{label_end}
use Rattle.jl_nqread.proofs.terms.label_end.Given as goal

abbrev pub invariant-run : goal.invariant-run
invariant-run l = (label_end (drop l.fn.from l.bytes) (drop l.fn.from l.bytes) ≡ label_end (drop l.end l.bytes) (drop l.at l.bytes)) × (l.fn.from ≤ l.end) × (l.end ≤ l.at) × (l.at ≤ length l.bytes)

abbrev pub decreases-run : goal.decreases-run
decreases-run l = length l.bytes - l.at
