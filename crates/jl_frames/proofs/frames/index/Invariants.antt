use Rattle.std.proofs.Common.{◌-◌, length}
use Rattle.jl_frames.proofs.IndexLemmas.{Indexed}
use Rattle.jl_frames.proofs.frames.index.Given as goal

abbrev pub invariant-by_frame : goal.invariant-by_frame
invariant-by_frame l = Indexed l.fn.space l.bodies.items l.at

abbrev pub decreases-by_frame : goal.decreases-by_frame
decreases-by_frame l = length l.bytes - l.at
