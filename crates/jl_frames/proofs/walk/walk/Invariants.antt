use Rattle.std.proofs.Common.{◌-◌, length}
use Rattle.jl_frames.proofs.WalkLemmas.{Walking}
use Rattle.jl_frames.proofs.walk.walk.Given as goal

abbrev pub invariant-by_frame : goal.invariant-by_frame
invariant-by_frame l = Walking l.bytes l.start l.bodies.items l.end

abbrev pub decreases-by_frame : goal.decreases-by_frame
decreases-by_frame l = length l.bytes - l.end
