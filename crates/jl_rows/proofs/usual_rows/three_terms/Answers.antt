use Rattle.std.proofs.lemmas.Bool.{eqb-true}
use Rattle.jl_rows.proofs.UsualRows.{triple_said}
use Rattle.jl_rows.proofs.usual_rows.three_terms.Goals as goal

pub returns : goal.returns
returns c = λ ends. (
  triple_said c.args.bytes.now c.args.span c.in-Some.place c.in-Some-position.place c.in-Some-position-2.place c.behind-end.result c.position.new.term c.position-2.new.term c.position-3.new.term
      c.behind-end.ensures (eqb-true _ _ ends) c.in-Some.ensures c.in-Some-position.ensures c.in-Some-position-2.ensures,
  (c.in-Some.ensures.inside, c.in-Some-position.ensures.inside, c.in-Some-position-2.ensures.inside),
)
