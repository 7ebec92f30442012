use Rattle.std.proofs.Common.{◌≡◌, ◌-◌, ◌≤◌, length, drop}
use Rattle.jl_nqread.specs.Taking.{closed}
use Rattle.jl_nqread.specs.Grammar.{iri_char}
use Rattle.jl_nqread.proofs.quoted.iri_end.Given as goal

abbrev pub invariant-chars : goal.invariant-chars
invariant-chars l = (closed iri_char 62 0 (drop l.fn.from l.bytes) ≡ closed iri_char 62 0 (drop l.at l.bytes)) × (l.fn.from ≤ l.at)

abbrev pub decreases-chars : goal.decreases-chars
decreases-chars l = length l.bytes - l.at
