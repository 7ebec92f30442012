use Rattle.std.proofs.Common.{drop}
use Rattle.jl_nqread.proofs.GrammarLaws.{shallow, deeper}
use Rattle.jl_nqread.proofs.terms.+terms.Goals as goal

pub term-returns-then-depth-eq0 : goal.term-returns-then-depth-eq0
term-returns-then-depth-eq0 t c = rw (shallow c.args.depth (drop c.args.at c.args.bytes.now) c.if-depth-eq0.true) c.plain_term.ensures

pub term-returns-in-Some : goal.term-returns-in-Some
term-returns-in-Some t c = rw (deeper c.args.depth (drop c.args.at c.args.bytes.now) c.if-depth-eq0.false, c.in-Some.ensures.exact) c.three_terms.ensures

pub term-returns-in-None : goal.term-returns-in-None
term-returns-in-None t c = rw (deeper c.args.depth (drop c.args.at c.args.bytes.now) c.if-depth-eq0.false, c.in-None.ensures.exact) c.plain_term-in-None.ensures
