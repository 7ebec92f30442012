use Rattle.std.proofs.Common.{◌-◌, length}
use Rattle.std.specs.Bool.{⊤}
use Rattle.jl_nqscan.proofs.parts.line_feed.Given as goal

abbrev pub invariant-search : goal.invariant-search
invariant-search l = ⊤

abbrev pub decreases-search : goal.decreases-search
decreases-search l = length l.bytes - l.at
