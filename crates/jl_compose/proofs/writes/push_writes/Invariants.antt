use Rattle.std.proofs.Common.{length}
use Rattle.jl_sym.specs.Seen.{summary_seen}
use Rattle.jl_compose.proofs.Pushing.{Pushed}
use Rattle.jl_compose.proofs.writes.push_writes.Given as goal

abbrev pub invariant-writes : goal.invariant-writes
invariant-writes l = Pushed l.fn.bytes (summary_seen l.fn.bytes l.fn.first) l.fn.rows l.fn.out.items l.fn.writes l.out.items l.rest

abbrev pub decreases-writes : goal.decreases-writes
decreases-writes l = length l.rest
