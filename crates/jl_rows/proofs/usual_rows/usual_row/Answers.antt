use Rattle.jl_rows.proofs.UsualRows.{row_in_front, row_in_front_ends}
use Rattle.jl_rows.proofs.usual_rows.usual_row.Goals as goal

pub returns-then-message-clause-exact : goal.returns-then-message-clause-exact
returns-then-message-clause-exact c =
    let said = c.message.ensures c.if-message.true in
    row_in_front c.args.bytes.now c.args.at c.args.end c.behind.result c.in_ok-span.span c.message.new.row c.in_ok-span.ensures c.if-bytes-at-ne10.false c.behind.ensures said.0

pub returns-then-message-clause-place : goal.returns-then-message-clause-place
returns-then-message-clause-place c =
    row_in_front_ends c.args.bytes.now c.args.at c.args.end c.behind.result c.in_ok-span.span c.in_ok-span.ensures c.if-bytes-at-ne10.false c.behind.ensures
