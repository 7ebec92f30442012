use Rattle.std.proofs.Common.{length, ap, sym}
use Rattle.jl_spell.proofs.VarintSteps.{one_byte}
use Rattle.jl_spell.proofs.number.varint_len.Goals as goal

pub returns-then-number-lt128-clause-exact : goal.returns-then-number-lt128-clause-exact
returns-then-number-lt128-clause-exact c = sym (ap length (one_byte c.args.number c.if-number-lt128.true))
