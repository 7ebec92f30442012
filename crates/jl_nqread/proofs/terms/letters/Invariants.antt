use Rattle.std.proofs.Common.{◌≡◌, ◌-◌, ◌≤◌, length, drop}
use Rattle.jl_nqread.specs.Taking.{starts, past}
use Rattle.std.specs.Char.{is_ascii_alphabetic}
use Rattle.jl_nqread.proofs.terms.letters.Given as goal

abbrev pub invariant-run : goal.invariant-run
invariant-run l = (past (starts is_ascii_alphabetic) (drop l.at l.bytes) ≡ past (starts is_ascii_alphabetic) (drop l.fn.from l.bytes)) × (l.fn.from ≤ l.at) × (l.at ≤ length l.bytes)

abbrev pub decreases-run : goal.decreases-run
decreases-run l = length l.bytes - l.at
