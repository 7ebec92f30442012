use Rattle.std.proofs.Common.{arith}
use Rattle.jl_rows.proofs.UsualPositions.{label_there}
use Rattle.jl_rows.proofs.usual_positions.label_at.Goals as goal

pub returns : goal.returns
returns c =
    label_there c.args.bytes.now c.args.at c.args.end c.args.group c.behind.result c.in_ok-span.span c.in_ok-span.ensures c.behind.ensures c.requires.group c.requires.tag c.if-not-is_text.ensures (omega arith)
