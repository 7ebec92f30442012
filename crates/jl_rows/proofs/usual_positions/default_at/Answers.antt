use Rattle.std.proofs.Common.{arith}
use Rattle.jl_rows.proofs.UsualPositions.{default_there}
use Rattle.jl_rows.proofs.usual_positions.default_at.Goals as goal

pub returns : goal.returns
returns c =
    default_there c.args.bytes.now c.args.at c.args.end c.behind.result c.in_ok-span.span c.in_ok-span.ensures c.behind.ensures c.requires.tag (omega arith)
