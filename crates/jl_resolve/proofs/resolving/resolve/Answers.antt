use Rattle.std.proofs.Common.{◌∙◌, ℕ, List, ap}
use Rattle.jl_tape.specs.Runs.{run_rows}
use Rattle.jl_tape.specs.Tapes.{reading_of}
use Rattle.jl_resolve.proofs.Decoding.{copy_decodes}
use Rattle.jl_resolve.proofs.resolving.resolve.Goals as goal

pub returns-clause-decodes : goal.returns-clause-decodes
returns-clause-decodes c =
    let bytes = c.args.space.now in
    let here = c.bytes-bytes.result.now in
    let same = c.bytes-bytes.ensures.all in
    copy_decodes bytes here c.args.state.now c.in_ok-copy.copy (run_rows bytes c.args.frames.now c.args.run) (reading_of here c.read_run.new.tape c.in_ok-fault.fault) c.resolve_from.result
    same c.in_ok-copy.ensures.options (c.in_ok-copy.ensures.seen bytes)
    (c.in_ok-fault.ensures.read ∙ ap (λ (b : List ℕ). run_rows b c.args.frames.now c.args.run) same)
    c.resolve_from.ensures.said
