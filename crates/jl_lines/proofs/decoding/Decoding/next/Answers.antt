use Rattle.std.proofs.Common.{◌+◌, slice_range, ap, refl}
use Rattle.jl_rows.specs.Seen.{row_seen}
use Rattle.jl_rows.proofs.FileLaws.{rows_next, rows_done, rows_broken, row_at}
use Rattle.jl_lines.specs.Going.{outcome}
use Rattle.jl_lines.specs.Stretches.{rest_of}
use Rattle.jl_lines.proofs.GoingLemmas.{goes_row, halts_row, halts_read}
use Rattle.jl_lines.proofs.decoding.Decoding.next.Goals as goal

pub returns-in-Ok-None-clause-comes : goal.returns-in-Ok-None-clause-comes
returns-in-Ok-None-clause-comes c B =
    let said = rw c.in-Ok-None.field-0-is at c.in-Ok-None.ensures.exact in
    ap (outcome c.args.bytes.now c.args.self.now) (rows_done c.args.frame.number c.args.before (slice_range c.args.bytes.now c.args.at c.args.frame.end) B said)

pub returns-in-Err-clause-comes : goal.returns-in-Err-clause-comes
returns-in-Err-clause-comes c B =
    rw c.malformed.ensures
    (halts_read c.args.bytes.now c.args.self.now c.args.self.now (rest_of c.args.bytes.now c.args.frame c.args.before c.args.at B) _
    (rows_broken c.args.frame.number c.args.before (slice_range c.args.bytes.now c.args.at c.args.frame.end) B c.in-Err.kind c.in-Err.ensures.exact) refl refl)

pub returns-in-Err-Fault-clause-comes : goal.returns-in-Err-Fault-clause-comes
returns-in-Err-Fault-clause-comes c B =
    let said = rw c.in-Ok-Some.field-0-is at c.in-Ok-Some.ensures.exact in
    let stopped = rw c.in-Err-Fault.field-0-is at c.in-Err-Fault.ensures.exact in
    rw c.malformed-in-Err-Fault.ensures
    (halts_row c.args.bytes.now c.args.self.now c.row.new.self (rest_of c.args.bytes.now c.args.frame c.args.before c.args.at B)
    (row_at c.args.frame.number c.args.before (row_seen c.args.bytes.now c.next_row_into.new.row)) (rest_of c.args.bytes.now c.args.frame (c.args.before + 1) c.in-Ok-Some.next B) c.in-Err-Fault.kind
    (rows_next c.args.frame.number c.args.before (slice_range c.args.bytes.now c.args.at c.args.frame.end) B (slice_range c.args.bytes.now c.in-Ok-Some.next c.args.frame.end) (row_seen c.args.bytes.now c.next_row_into.new.row) said)
    stopped.0 stopped.1 stopped.2)

pub returns-in-Ok-clause-comes : goal.returns-in-Ok-clause-comes
returns-in-Ok-clause-comes c B =
    let said = rw c.in-Ok-Some.field-0-is at c.in-Ok-Some.ensures.exact in
    let took = c.in-Ok.ensures.exact in
    goes_row c.args.bytes.now c.args.self.now c.row.new.self (rest_of c.args.bytes.now c.args.frame c.args.before c.args.at B)
    (row_at c.args.frame.number c.args.before (row_seen c.args.bytes.now c.next_row_into.new.row)) (rest_of c.args.bytes.now c.args.frame (c.args.before + 1) c.in-Ok-Some.next B) took.0
    (rows_next c.args.frame.number c.args.before (slice_range c.args.bytes.now c.args.at c.args.frame.end) B (slice_range c.args.bytes.now c.in-Ok-Some.next c.args.frame.end) (row_seen c.args.bytes.now c.next_row_into.new.row) said)
    c.in-Ok.ensures.options c.in-Ok.ensures.writing took.1 took.2 took.3
