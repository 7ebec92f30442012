use Rattle.std.proofs.Common.{◌-◌}
use Rattle.jl_text.proofs.StringLemmas.{Gone}
use Rattle.jl_text.proofs.escape.place_escaped_end.Given as goal

abbrev pub invariant-by_front : goal.invariant-by_front
invariant-by_front l = Gone l.fn.page l.bytes l.at l.fn.from l.end l.page l.next l.place

abbrev pub decreases-by_front : goal.decreases-by_front
decreases-by_front l = l.end - l.next
