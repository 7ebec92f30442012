use Rattle.std.proofs.Common.{◌+◌, ◌≤◌, length, ap, refl, subst, sym, arith}
use Rattle.std.proofs.lemmas.Result.{err_from_is_err_and}
use Rattle.jl_base.specs.Results.{Reading}
use Rattle.jl_base.specs.declared.place.Fault.{Fault}
use Rattle.jl_rows.specs.Files.{Placed}
use Rattle.jl_frames.specs.Runs.{frames_before}
use Rattle.jl_frames.specs.Stretches.{between}
use Rattle.jl_frames.proofs.RunLemmas.{whole_cover}
use Rattle.jl_frames.proofs.Stretches.{laid_last}
use Rattle.jl_lines.specs.Going.{outcome}
use Rattle.jl_lines.specs.Giving.{Breaks, Passes, outlet}
use Rattle.jl_lines.proofs.GivingLemmas.{passes_breaks, passes_on, passes_then}
use Rattle.jl_lines.proofs.Stretching.{none_between}
use Rattle.jl_decode.proofs.Sharing.{state_from, wave_begins, wave_ends_at, wave_split}
use Rattle.jl_decode.proofs.waves.share_waves.Goals as goal

pub share_wave-requires-clause-few : goal.share_wave-requires-clause-few
share_wave-requires-clause-few g c κs within =
    let file = c.args.file.now in
    let last = laid_last file.frames.now.lo file.frames.now.bodies c.requires.file.laid.0 (frames_before file.plan.now c.by_portion.done) c.requires.file.laid.1 in
    omega (arith, last, c.requires.file.laid.2, c.requires.file.short, c.requires.few, c.by_portion.invariant.few)

pub returns-in_err-kept-clause-comes : goal.returns-in_err-kept-clause-comes
returns-in_err-kept-clause-comes g c B =
    let file = c.args.file.now in
    let bytes = file.space.now in
    let frames = file.frames.now in
    let all = length frames.bodies in
    let first = c.by_portion.done in
    let runs = c.portion-runs.result in
    let k = outlet g.K.Sink.held g.K.Sink.faults c.args.out.now in
    let k' = outlet g.K.Sink.held g.K.Sink.faults c.by_portion.out in
    let k'' = outlet g.K.Sink.held g.K.Sink.faults c.share_wave.new.out in
    let rest = between bytes frames (frames_before file.plan.now (first + runs)) all B in
    let parts = wave_split file c.requires.file first runs (first + runs) refl B in
    let broke = c.in_err-kept.ensures.comes rest in
    let p = err_from_is_err_and c.from_residual.result c.from_residual.ensures.1 in
    rw (p.1, p.2)
    (passes_breaks (outcome bytes c.args.decoding.now (between bytes frames 0 all B)) (outcome bytes c.by_portion.decoding (between bytes frames (frames_before file.plan.now first) all B)) k k' (c.by_portion.invariant.went B) k'' c.in_err-kept.field-0.0
    (subst (λ (R : Reading Placed Fault). Breaks (outcome bytes c.by_portion.decoding R) k' k'' c.in_err-kept.field-0.0) (sym parts) broke))

pub by_portion-preserved : goal.by_portion-preserved
by_portion-preserved g c =
    let file = c.args.file.now in
    let bytes = file.space.now in
    let frames = file.frames.now in
    let all = length frames.bodies in
    let first = c.by_portion.done in
    let runs = c.portion-runs.result in
    let k = outlet g.K.Sink.held g.K.Sink.faults c.args.out.now in
    let k' = outlet g.K.Sink.held g.K.Sink.faults c.by_portion.out in
    let k'' = outlet g.K.Sink.held g.K.Sink.faults c.share_wave.new.out in
    let begin = wave_begins file c.requires.file first runs (first + runs) refl in
    let end = wave_ends_at file c.requires.file first runs (first + runs) refl in
    record {
      within = omega (arith, c.by_portion.invariant.within, c.by_portion-test.true, c.portion-runs.ensures.within, c.runs-all.ensures);
      workers = (omega (arith, c.in_ok-kept.ensures.workers, c.keep_as_many.ensures.0), omega (arith, c.in_ok-kept.ensures.workers, c.keep_as_many.ensures.1));
      state = state_from file first 0 c.share_wave.new.decoding.state c.in_ok-kept.ensures.state;
      empty = c.in_ok-kept.ensures.empty;
      few = omega (arith, c.in_ok-kept.ensures.few, begin, end, c.by_portion.invariant.few);
      went = λ B. (
          let rest = between bytes frames (frames_before file.plan.now (first + runs)) all B in
          let parts = wave_split file c.requires.file first runs (first + runs) refl B in
          let came = c.in_ok-kept.ensures.comes rest in
          let after = outcome bytes c.share_wave.new.decoding rest in
          passes_then (outcome bytes c.args.decoding.now (between bytes frames 0 all B)) (outcome bytes c.by_portion.decoding (between bytes frames (frames_before file.plan.now first) all B)) k k' (c.by_portion.invariant.went B) after k''
          (subst (λ (R : Reading Placed Fault). Passes (outcome bytes c.by_portion.decoding R) k' k'' after) (sym parts) came));
    }

pub returns-clause-comes : goal.returns-clause-comes
returns-clause-comes g c B =
    let file = c.args.file.now in
    let bytes = file.space.now in
    let frames = file.frames.now in
    let all = length frames.bodies in
    let first = c.by_portion.done in
    let done : length file.plan.now ≤ first = omega (arith, c.by_portion-test.false, c.runs-all.ensures) in
    let whole = whole_cover frames 0 file.plan.now all first c.requires.file.cover done in
    let none = none_between bytes frames all B (frames_before file.plan.now first) (omega (arith, whole)) in
    passes_on (outcome bytes c.args.decoding.now (between bytes frames 0 all B)) (outcome bytes c.by_portion.decoding (between bytes frames (frames_before file.plan.now first) all B)) (outlet g.K.Sink.held g.K.Sink.faults c.args.out.now) (outlet g.K.Sink.held g.K.Sink.faults c.by_portion.out) (c.by_portion.invariant.went B)
    (outcome bytes c.by_portion.decoding B) (ap (outcome bytes c.by_portion.decoding) none)
