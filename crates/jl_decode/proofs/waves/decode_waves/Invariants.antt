use Rattle.std.proofs.Common.{◌≡◌, [], ◌+◌, ◌*◌, ◌≤◌, min, length}
use Rattle.jl_base.specs.Results.{Reading}
use Rattle.jl_base.specs.declared.place.Fault.{Fault}
use Rattle.jl_rows.specs.Files.{Placed}
use Rattle.jl_frames.specs.Index.{behind}
use Rattle.jl_frames.specs.Runs.{frames_before, runs_per_wave}
use Rattle.jl_lines.specs.Kept.{Keeps}
use Rattle.jl_lines.specs.Going.{counted, outcome}
use Rattle.jl_lines.specs.Giving.{Passes, outlet}
use Rattle.jl_frames.specs.Stretches.{between}
use Rattle.jl_decode.proofs.waves.decode_waves.Given as goal

-- from the first frame to the first one of wave w
abbrev pub invariant-loop-w : goal.invariant-loop-w
invariant-loop-w g l = record {
  runs : l.done ≡ frames_before l.plan (min (l.w * runs_per_wave) (length l.plan));
  within : l.done ≤ length l.frames.bodies;
  empty : l.decoding.page.lines ≡ [];
  few : counted l.decoding ≤ counted l.fn.decoding + behind l.frames l.done;
  went : (B : Reading Placed Fault) → Passes (outcome l.bytes l.fn.decoding (between l.bytes l.frames 0 (length l.frames.bodies) B)) (outlet g.K.Sink.held g.K.Sink.faults l.fn.out) (outlet g.K.Sink.held g.K.Sink.faults l.out)
      (outcome l.bytes l.decoding (between l.bytes l.frames l.done (length l.frames.bodies) B));
  kept : Keeps l.bytes l.decoding;
}
