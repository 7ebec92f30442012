use Rattle.jl_rows.proofs.UsualPositions.{iri_there}
use Rattle.jl_rows.proofs.usual_positions.iri_at.Goals as goal

pub returns : goal.returns
returns c =
    iri_there c.args.bytes.now c.args.at c.args.end c.args.group c.behind.result c.in_ok-span.span c.in_ok-iri.field-0 c.in_ok-span.ensures c.behind.ensures c.requires.group c.requires.tag c.in_ok-iri.ensures
