use Rattle.std.proofs.Common.{◌-◌}
use Rattle.jl_text.proofs.StringLemmas.{Gone}
use Rattle.jl_text.proofs.escape.place_escaped.Given as goal

abbrev pub invariant-by_wide_front : goal.invariant-by_wide_front
invariant-by_wide_front l = Gone l.fn.page l.bytes l.at l.fn.from l.end l.page l.next l.place

abbrev pub decreases-by_wide_front : goal.decreases-by_wide_front
decreases-by_wide_front l = l.end - l.next
