use Rattle.std.proofs.Common.{◌≡◌, [], ◌+◌, ◌-◌, ◌<◌, ◌≤◌, length, vec_len}
use Rattle.jl_base.specs.Results.{Reading}
use Rattle.jl_base.specs.declared.place.Fault.{Fault}
use Rattle.jl_rows.specs.Files.{Placed}
use Rattle.jl_frames.specs.Index.{behind}
use Rattle.jl_frames.specs.Runs.{frames_before}
use Rattle.jl_frames.specs.Stretches.{between}
use Rattle.jl_scan.specs.Fields.{IsStateOf}
use Rattle.jl_scan.specs.Files.{field_of}
use Rattle.jl_lines.specs.Going.{counted, outcome}
use Rattle.jl_lines.specs.Giving.{Passes, outlet}
use Rattle.jl_decode.proofs.waves.share_waves.Given as goal

-- what each wave is of
abbrev pub ghosts-share_wave : goal.ghosts-share_wave
ghosts-share_wave g a = record { field = field_of a.file.now a.lo }

-- how many runs are left
abbrev pub decreases-by_portion : goal.decreases-by_portion
decreases-by_portion g l = l.all - l.done

-- from the first frame to the first one of the next portion
abbrev pub invariant-by_portion : goal.invariant-by_portion
invariant-by_portion g l = record {
  within : l.done ≤ length l.file.plan.now;
  workers : (0 < vec_len l.kept) × (vec_len l.kept ≤ 64);
  state : IsStateOf (field_of l.file 0) l.decoding.state;
  empty : l.decoding.page.lines ≡ [];
  few : counted l.decoding ≤ counted l.fn.decoding + behind l.file.frames.now (frames_before l.file.plan.now l.done);
  went : (B : Reading Placed Fault) → Passes (outcome l.file.space.now l.fn.decoding (between l.file.space.now l.file.frames.now 0 (length l.file.frames.now.bodies) B)) (outlet g.K.Sink.held g.K.Sink.faults l.fn.out) (outlet g.K.Sink.held g.K.Sink.faults l.out)
      (outcome l.file.space.now l.decoding (between l.file.space.now l.file.frames.now (frames_before l.file.plan.now l.done) (length l.file.frames.now.bodies) B));
}
