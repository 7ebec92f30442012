use Rattle.std.proofs.Common.{◌≡◌, ◌++◌, ◌-◌, ◌≤◌, false, length, drop}
use Rattle.jl_nqread.specs.Taking.{starts}
use Rattle.jl_nqread.specs.Meaning.{is_plain, unescaped}
use Rattle.jl_nqread.proofs.unescape.unescaped.Given as goal

abbrev pub invariant-escapes : goal.invariant-escapes
invariant-escapes l = (unescaped 0 l.bytes ≡ l.text ++ unescaped 0 (drop l.at l.bytes)) × (starts is_plain (drop l.at l.bytes) ≡ false) × (l.at ≤ length l.bytes)

abbrev pub decreases-escapes : goal.decreases-escapes
decreases-escapes l = length l.bytes - l.at
