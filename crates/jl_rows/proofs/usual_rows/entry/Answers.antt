use Rattle.std.proofs.Common.{arith}
use Rattle.jl_rows.proofs.UsualRows.{entry_kind, entry_said}
use Rattle.jl_rows.proofs.usual_rows.entry.Goals as goal

pub returns : goal.returns
returns c = λ _. entry_kind c.args.bytes.now c.args.tag _ c.in-Some-table_of.table _ c.in-Some-table_of.ensures (
  (let id = c.unwrap_or.ensures in
      rw id (entry_said c.args.bytes.now c.in-Some-table_of.table c.args.span c.in-Some.place c.behind-end.result c.behind.result c.in-Some.id c.in-Some-counted.text c.behind-end.ensures c.behind.ensures c.if-behind-end.false
      c.in-Some.ensures c.in-Some-counted.ensures c.if-bytes-place-ne18.false c.if-not-is_text.ensures (omega (arith, c.behind-end.ensures, c.requires)))),
  (let text = c.in-Some-counted.ensures in omega (arith, text.before, c.behind-end.ensures, c.requires)),
)
