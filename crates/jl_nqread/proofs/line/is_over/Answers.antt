use Rattle.std.proofs.Common.{sym, ap, arith}
use Rattle.std.proofs.lemmas.List.{drop_more, at_drop_all}
use Rattle.jl_nqread.specs.Lines.{is_over}
use Rattle.jl_nqread.proofs.line.is_over.Goals as goal

pub returns-then-at-text : goal.returns-then-at-text
returns-then-at-text c = sym (ap is_over (drop_more c.args.text.now c.args.at 0 c.if-at-text.true))

pub returns : goal.returns
returns c = sym (at_drop_all is_over c.args.text.now c.args.at (omega arith))
