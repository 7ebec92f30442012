use Rattle.jl_spell.proofs.VarintSteps.{one_byte}
use Rattle.jl_spell.proofs.field.push_both.Goals as goal

pub returns-then-second-lt128-clause-ok : goal.returns-then-second-lt128-clause-ok
returns-then-second-lt128-clause-ok c = rw (one_byte c.args.first c.if-first-lt128.true, one_byte c.args.second c.if-second-lt128.true) c.in_ok-extend_from_slice.ensures.items
