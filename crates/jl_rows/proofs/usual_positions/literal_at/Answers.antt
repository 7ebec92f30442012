use Rattle.jl_rows.proofs.UsualPositions.{literal_there}
use Rattle.jl_rows.proofs.usual_positions.literal_at.Goals as goal

pub returns : goal.returns
returns c =
    literal_there c.args.bytes.now c.args.at c.args.end c.args.group c.behind.result c.in_ok-span.span c.in_ok-literal.field-0 c.in_ok-span.ensures c.behind.ensures c.requires.group c.requires.tag c.in_ok-literal.ensures.exact c.in_ok-literal.ensures.inside
