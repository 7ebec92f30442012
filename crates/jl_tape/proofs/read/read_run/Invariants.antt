use Rattle.std.proofs.Common.{◌≡◌, ◌+◌, ◌*◌, ◌≤◌, None, length}
use Rattle.jl_base.specs.Results.{joined}
use Rattle.jl_frames.specs.Index.{behind}
use Rattle.jl_frames.specs.Stretches.{between}
use Rattle.jl_tape.specs.Runs.{no_rows, run_rows}
use Rattle.jl_tape.specs.Tapes.{HasRows, reading_of}
use Rattle.jl_tape.proofs.read.read_run.Given as goal

abbrev pub invariant-loop-i : goal.invariant-loop-i
invariant-loop-i l = record {
  read : run_rows l.bytes l.frames l.fn.run ≡ joined (reading_of l.bytes l.tape None) (between l.bytes l.frames l.i (l.begin + l.fn.run.frames) no_rows);
  few : behind l.frames l.begin + 2 * length l.tape ≤ behind l.frames l.i;
  has : HasRows l.bytes l.tape;
}
