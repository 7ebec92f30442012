use Rattle.std.proofs.Common.{length}
use Rattle.jl_compact.specs.Parts.{writes_seen}
use Rattle.jl_compact.proofs.Backward.{Back}
use Rattle.jl_compact.proofs.unseen.find_unseen.Given as goal

abbrev pub invariant-backward : goal.invariant-backward
invariant-backward l = Back (length l.fn.marks) l.fn.moments (writes_seen l.fn.bytes l.fn.writes) l.left l.marks l.flags

abbrev pub decreases-backward : goal.decreases-backward
decreases-backward l = l.left
