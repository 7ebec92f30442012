use Rattle.jl_spell.proofs.VarintSteps.{one_byte}
use Rattle.jl_spell.proofs.number.push_varint.Goals as goal

pub returns-then-number-lt128-clause-ok : goal.returns-then-number-lt128-clause-ok
returns-then-number-lt128-clause-ok c = rw (one_byte c.args.number c.if-number-lt128.true) c.in_ok-push.ensures.items
