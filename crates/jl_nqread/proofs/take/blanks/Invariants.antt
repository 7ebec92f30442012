use Rattle.std.proofs.Common.{◌≡◌, ◌-◌, length, drop}
use Rattle.jl_nqread.specs.Grammar.{blanks}
use Rattle.jl_nqread.proofs.take.blanks.Given as goal

abbrev pub invariant-run : goal.invariant-run
invariant-run l = blanks (drop l.at l.bytes) ≡ blanks (drop l.fn.from l.bytes)

abbrev pub decreases-run : goal.decreases-run
decreases-run l = length l.bytes - l.at
