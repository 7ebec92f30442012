use Rattle.std.proofs.Common.{sym}
use Rattle.jl_rows.specs.Seen.{options_seen}
use Rattle.jl_state.specs.Lawful.{state_seen}
use Rattle.jl_tape.specs.Runs.{no_rows}
use Rattle.jl_tape.specs.Tapes.{reading_of}
use Rattle.jl_decode.proofs.PieceLemmas.{halted_counts, halted_fault, halted_lines, whole_counts, whole_lines}
use Rattle.jl_decode.proofs.RunLemmas.{run_faulty}
use Rattle.jl_decode.proofs.piece.write_tape.Goals as goal

pub returns-in-Ok-clause-made : goal.returns-in-Ok-clause-made
returns-in-Ok-clause-made c =
    let bytes = c.args.bytes.now in
    let R = reading_of bytes c.args.tape.now c.args.fault in
    let begun = c.restart.ensures in
    let came = c.in-Ok.ensures.comes no_rows in
    rw (sym begun.state, sym begun.writing) (
      whole_lines bytes c.restart.new.self c.taped.new.self R begun.empty begun.none came,
      whole_counts bytes c.restart.new.self c.taped.new.self R begun.empty begun.none came,
    )

pub returns-in-Ok-clause-ends : goal.returns-in-Ok-clause-ends
returns-in-Ok-clause-ends c =
    rw (sym c.restart.ensures.state) (c.in-Ok.ensures.state, c.in-Ok.ensures.kept.lawful)

pub returns-in-Err-Malformed-clause-made : goal.returns-in-Err-Malformed-clause-made
returns-in-Err-Malformed-clause-made c =
    let bytes = c.args.bytes.now in
    let R = reading_of bytes c.args.tape.now c.args.fault in
    let begun = c.restart.ensures in
    let halts = rw c.in-Err-Malformed.field-0-is at (c.in-Err-Malformed.ensures.comes no_rows) in
    rw (sym begun.state, sym begun.writing) (
      halted_lines bytes c.restart.new.self c.taped.new.self R begun.empty begun.none c.in-Err-Malformed.found halts,
      halted_counts bytes c.restart.new.self c.taped.new.self R begun.empty begun.none c.in-Err-Malformed.found halts,
    )

pub returns-in-Err-Malformed-clause-ends : goal.returns-in-Err-Malformed-clause-ends
returns-in-Err-Malformed-clause-ends c =
    let bytes = c.args.bytes.now in
    let R = reading_of bytes c.args.tape.now c.args.fault in
    let begun = c.restart.ensures in
    let halts = rw c.in-Err-Malformed.field-0-is at (c.in-Err-Malformed.ensures.comes no_rows) in
    let d = c.restart.new.self in
    rw (sym begun.state)
    (run_faulty (options_seen bytes d.state.options) (state_seen bytes d.state) R c.in-Err-Malformed.found
    (halted_fault bytes d c.taped.new.self R begun.empty begun.none c.in-Err-Malformed.found halts))
