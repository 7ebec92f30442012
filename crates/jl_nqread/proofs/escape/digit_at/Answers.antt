use Rattle.std.proofs.Common.{sym, ◌∙◌, arith}
use Rattle.jl_nqread.proofs.GrammarLaws.{digit_there, no_digit}
use Rattle.jl_nqread.proofs.escape.digit_at.Goals as goal

pub returns-then-k-left-clause-exact : goal.returns-then-k-left-clause-exact
returns-then-k-left-clause-exact c = c.digit.ensures.exact ∙ sym (digit_there c.args.bytes.now c.args.at c.args.k)

pub returns-clause-exact : goal.returns-clause-exact
returns-clause-exact c = sym (no_digit c.args.bytes.now c.args.at c.args.k (omega arith))
