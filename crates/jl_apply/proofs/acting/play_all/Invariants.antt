use Rattle.std.proofs.Common.{◌-◌, ◌^◌}
use Rattle.jl_apply.proofs.Stops.{Stops}
use Rattle.jl_apply.proofs.acting.play_all.Given as goal

abbrev pub invariant-stops : goal.invariant-stops
invariant-stops l = Stops l.fn.bytes l.fn.incoming l.fn.tables l.fn.summary l.tables l.rest l.from l.terms

abbrev pub decreases-stops : goal.decreases-stops
decreases-stops l = 2 ^ 32 - l.from
