use Rattle.std.proofs.Common.{◌≡◌, ◌-◌, ◌≤◌, length, drop}
use Rattle.jl_nqread.specs.Taking.{past}
use Rattle.jl_nqread.specs.Grammar.{goes_on_tag}
use Rattle.jl_nqread.proofs.terms.groups.Given as goal

abbrev pub invariant-run : goal.invariant-run
invariant-run l = (past goes_on_tag (drop l.at l.bytes) ≡ past goes_on_tag (drop l.fn.from l.bytes)) × (l.fn.from ≤ l.at) × (l.at ≤ length l.bytes)

abbrev pub decreases-run : goal.decreases-run
decreases-run l = length l.bytes - l.at
