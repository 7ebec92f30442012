use Rattle.std.proofs.Common.{length}
use Rattle.jl_apply.proofs.Loops.{Log}
use Rattle.jl_apply.proofs.log.play.Given as goal

abbrev pub invariant-log : goal.invariant-log
invariant-log l = Log l.fn.bytes l.fn.incoming l.fn.tables l.fn.writes l.fn.moment l.tables l.rest

abbrev pub decreases-log : goal.decreases-log
decreases-log l = length l.rest
