use Rattle.std.proofs.Common.{length}
use Rattle.jl_sym.specs.Held.{AreTexts}
use Rattle.jl_compact.specs.Parts.{writes_seen}
use Rattle.jl_compact.proofs.Forward.{Front}
use Rattle.jl_compact.proofs.writes.keep.Given as goal

abbrev pub invariant-by_write : goal.invariant-by_write
invariant-by_write l = AreTexts l.fn.bytes l.kept.items × AreTexts l.fn.bytes l.rest × Front (length l.fn.filled) l.fn.moments (writes_seen l.fn.bytes l.fn.writes) (writes_seen l.fn.bytes l.kept.items) (writes_seen l.fn.bytes l.rest) l.filled l.unseen

abbrev pub decreases-by_write : goal.decreases-by_write
decreases-by_write l = length l.rest
