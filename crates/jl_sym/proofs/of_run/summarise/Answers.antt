use Rattle.std.proofs.Common.{arith}
use Rattle.jl_frames.proofs.Stretches.{laid_last}
use Rattle.jl_tape.specs.Runs.{run_end}
use Rattle.jl_sym.proofs.of_run.summarise.Goals as goal

pub summarise_tape-requires-clause-few : goal.summarise_tape-requires-clause-few
summarise_tape-requires-clause-few g c =
    let frames = c.args.frames.now in
    let laid = c.requires.laid in
    let within = laid_last frames.lo frames.bodies laid.0 (run_end frames c.args.run) laid.1 in
    let few = c.in_ok-fault.ensures.few in
    let inside = laid.2 in
    let short = c.requires.short in
    omega (arith, within, few, inside, short)
