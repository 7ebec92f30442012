-- Each return is one lemma on a file whose first frames have no rows.
use Rattle.std.proofs.Common.{◌∙◌, ap, sym, arith, length}
use Rattle.jl_rows.specs.Heads.{head_seen}
use Rattle.jl_rows.specs.Seen.{row_seen}
use Rattle.jl_rows.proofs.HeadLaws.{nothing_left, no_frame, first_row, no_row, frame_without_rows}
use Rattle.jl_rows.proofs.first_row.file_head.Goals as goal

pub returns-in-Ok-None-clause-exact : goal.returns-in-Ok-None-clause-exact
returns-in-Ok-None-clause-exact c =
    let ended = rw c.in-Ok-None.field-0-is at c.in-Ok-None.ensures.exact in
    sym (nothing_left c.args.bytes.now c.frames.frame c.frames.at (length c.args.bytes.now) c.frames.invariant.rest ended)

pub returns-in-Err-clause-exact : goal.returns-in-Err-clause-exact
returns-in-Err-clause-exact c =
    ap (head_seen c.args.bytes.now) c.bad.ensures
    ∙ sym (no_frame c.args.bytes.now c.frames.frame c.frames.at (length c.args.bytes.now) c.frames.invariant.rest c.in-Err.kind c.in-Err.ensures.exact)

pub returns-in-Ok-Some-next_row_at-clause-exact : goal.returns-in-Ok-Some-next_row_at-clause-exact
returns-in-Ok-Some-next_row_at-clause-exact c =
    let frame = rw c.in-Ok-Some.field-0-is at c.in-Ok-Some.ensures in
    let found = rw c.in-Ok-Some-next_row_at.field-0-is at c.in-Ok-Some-next_row_at.ensures in
    c.checked.ensures.exact
    ∙ sym (first_row c.args.bytes.now c.frames.frame c.frames.at (length c.args.bytes.now) c.in-Ok-Some.body.0 c.in-Ok-Some.body.1 c.frames.invariant.rest frame.exact (row_seen c.args.bytes.now c.in-Ok-Some-next_row_at.row) _ found.exact)

pub frames-preserved : goal.frames-preserved
frames-preserved c =
    let frame = rw c.in-Ok-Some.field-0-is at c.in-Ok-Some.ensures in
    let within = frame.within in
    let none = rw c.in-Ok-None-next_row_at.field-0-is at c.in-Ok-None-next_row_at.ensures in
    record {
      inside = within.2;
      counted = omega (arith, within, c.frames.invariant.counted);
      rest = frame_without_rows c.args.bytes.now c.frames.frame c.frames.at (length c.args.bytes.now) c.in-Ok-Some.body.0 c.in-Ok-Some.body.1 c.frames.invariant.rest frame.exact none.exact;
    }

pub returns-in-Err-next_row_at-clause-exact : goal.returns-in-Err-next_row_at-clause-exact
returns-in-Err-next_row_at-clause-exact c =
    let frame = rw c.in-Ok-Some.field-0-is at c.in-Ok-Some.ensures in
    ap (head_seen c.args.bytes.now) c.bad-in-Err-next_row_at.ensures
    ∙ sym (no_row c.args.bytes.now c.frames.frame c.frames.at (length c.args.bytes.now) c.in-Ok-Some.body.0 c.in-Ok-Some.body.1 c.frames.invariant.rest frame.exact c.in-Err-next_row_at.kind c.in-Err-next_row_at.ensures.exact)
