use Rattle.std.proofs.Common.{length}
use Rattle.jl_rows.specs.Seen.{options_seen}
use Rattle.jl_compact.proofs.Inside.{Cutting}
use Rattle.jl_compact.proofs.cutting.writes_inside.Given as goal

abbrev pub invariant-by_write : goal.invariant-by_write
invariant-by_write l = Cutting l.fn.bytes (options_seen l.fn.bytes l.fn.options) l.fn.writes l.inside.items l.rest

abbrev pub decreases-by_write : goal.decreases-by_write
decreases-by_write l = length l.rest
