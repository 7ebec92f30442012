use Rattle.jl_rows.proofs.UsualTerms.{literal_said}
use Rattle.jl_rows.proofs.usual_terms.literal.Goals as goal

pub returns-clause-exact : goal.returns-clause-exact
returns-clause-exact c =
    literal_said c.args.bytes.now c.args.span c.in_ok-lex.lex c.behind-end.result c.behind.result c.in_ok-tail.tail c.behind-end.ensures c.behind.ensures c.in_ok-lex.ensures c.if-bytes-at-ne10.false c.if-not-is_text.ensures c.in_ok-tail.ensures
