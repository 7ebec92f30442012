use Rattle.std.proofs.Common.{drop}
use Rattle.jl_nqread.proofs.GrammarLaws.{shallow, deeper}
use Rattle.jl_nqread.proofs.MeaningLaws.{said_shallow, said_deeper}
use Rattle.jl_nqread.proofs.reading.+read_terms.Goals as goal

pub read_term-returns-then-depth-eq0 : goal.read_term-returns-then-depth-eq0
read_term-returns-then-depth-eq0 t c =
    let text = drop c.args.at c.args.bytes.now in
    rw (shallow c.args.depth text c.if-depth-eq0.true, said_shallow c.args.depth text c.if-depth-eq0.true) c.read_plain.ensures

pub read_term-returns-in-Some : goal.read_term-returns-in-Some
read_term-returns-in-Some t c =
    let text = drop c.args.at c.args.bytes.now in
    rw (deeper c.args.depth text c.if-depth-eq0.false, said_deeper c.args.depth text c.if-depth-eq0.false, c.in-Some.ensures.exact) c.read_three.ensures

pub read_term-returns-in-None : goal.read_term-returns-in-None
read_term-returns-in-None t c =
    let text = drop c.args.at c.args.bytes.now in
    rw (deeper c.args.depth text c.if-depth-eq0.false, said_deeper c.args.depth text c.if-depth-eq0.false, c.in-None.ensures.exact) c.read_plain-in-None.ensures
