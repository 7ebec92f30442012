use Rattle.std.proofs.Common.{◌≡◌, ◌++◌, ◌-◌, ◌≤◌, length, drop, slice_range}
use Rattle.jl_nqread.specs.Meaning.{unescaped}
use Rattle.jl_nqread.proofs.unescape.plain_end.Given as goal

abbrev pub invariant-run : goal.invariant-run
invariant-run l = (unescaped 0 (drop l.fn.from l.bytes) ≡ slice_range l.bytes l.fn.from l.at ++ unescaped 0 (drop l.at l.bytes)) × (l.fn.from ≤ l.at) × (l.at ≤ length l.bytes)

abbrev pub decreases-run : goal.decreases-run
decreases-run l = length l.bytes - l.at
