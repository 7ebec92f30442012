use Rattle.std.proofs.Common.{arith}
use Rattle.jl_rows.proofs.UsualRows.{message_said}
use Rattle.jl_rows.proofs.usual_rows.message.Goals as goal

pub returns : goal.returns
returns c = λ said. (
  message_said c.args.bytes.now c.args.span c.in-Some.inner c.behind.result c.behind-2.result c.kind.new.row c.behind.ensures c.behind-2.ensures (omega (arith, c.behind.ensures, c.behind-3.ensures, c.if-behind.false))
      c.in-Some.ensures (c.kind.ensures said),
  (c.kind.ensures said).said.1,
)
