use Rattle.std.proofs.Common.{◌≡◌, length}
use Rattle.jl_compact.specs.Marks.{is_hidden_by}
use Rattle.jl_compact.proofs.unseen.is_unseen.Given as goal

abbrev pub invariant-by_moment : goal.invariant-by_moment
invariant-by_moment l = is_hidden_by l.fn.moment l.fn.later l.fn.moments ≡ is_hidden_by l.fn.moment l.fn.later l.rest

abbrev pub decreases-by_moment : goal.decreases-by_moment
decreases-by_moment l = length l.rest
