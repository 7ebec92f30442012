use Rattle.std.proofs.Common.{◌≡◌, ℕ, ◌+◌, ◌-◌, ◌*◌, ◌≤◌, ◌<◌, min, length, refl, ap, sym, arith}
use Rattle.std.proofs.lemmas.Result.{err_from_is_err_and}
use Rattle.jl_frames.specs.Runs.{frames_before, runs_per_wave}
use Rattle.jl_frames.proofs.RunLemmas.{whole_cover}
use Rattle.jl_lines.specs.Going.{outcome}
use Rattle.jl_lines.specs.Giving.{outlet}
use Rattle.jl_frames.specs.Stretches.{between}
use Rattle.jl_lines.proofs.GivingLemmas.{passes_none, passes_on, passes_then, passes_breaks}
use Rattle.jl_frames.proofs.Stretches.{laid_count, laid_last}
use Rattle.jl_frames.proofs.Stretches.{between_split}
use Rattle.jl_lines.proofs.Stretching.{none_between}
use Rattle.jl_decode.proofs.Waving.{ends_wave}
use Rattle.jl_decode.proofs.waves.decode_waves.Goals as goal

pub overflow_sub-end : goal.overflow_sub-end
overflow_sub-end g c =
    let frames = c.args.frames.now in
    let last = rw c.wave-next.ensures at c.run-last.ensures in
    let lt : min (c.loop-w.w * runs_per_wave) (length c.args.plan.now) < min ((c.loop-w.w + 1) * runs_per_wave) (length c.args.plan.now) = omega (arith, c.loop-w-test.true, c.waves-w-end.ensures) in
    let is = ends_wave frames c.args.plan.now c.first.result (length frames.bodies) _ _ c.loop-w.done c.run-last.result c.first.ensures.exact c.requires.cover last lt c.loop-w.invariant.runs in
    is.first

pub overflow_add-end : goal.overflow_add-end
overflow_add-end g c =
    let frames = c.args.frames.now in
    let last = rw c.wave-next.ensures at c.run-last.ensures in
    let lt : min (c.loop-w.w * runs_per_wave) (length c.args.plan.now) < min ((c.loop-w.w + 1) * runs_per_wave) (length c.args.plan.now) = omega (arith, c.loop-w-test.true, c.waves-w-end.ensures) in
    let is = ends_wave frames c.args.plan.now c.first.result (length frames.bodies) _ _ c.loop-w.done c.run-last.result c.first.ensures.exact c.requires.cover last lt c.loop-w.invariant.runs in
    let end = is.end in
    let within = is.within in
    let count = laid_count frames.lo frames.bodies c.requires.laid.0 c.requires.laid.1 in
    omega (arith, end, within, count, c.requires.laid.2, c.requires.short)

pub deliver-requires-clause-begin : goal.deliver-requires-clause-begin
deliver-requires-clause-begin g c =
    let frames = c.args.frames.now in
    let last = rw c.wave-next.ensures at c.run-last.ensures in
    let lt : min (c.loop-w.w * runs_per_wave) (length c.args.plan.now) < min ((c.loop-w.w + 1) * runs_per_wave) (length c.args.plan.now) = omega (arith, c.loop-w-test.true, c.waves-w-end.ensures) in
    let is = ends_wave frames c.args.plan.now c.first.result (length frames.bodies) _ _ c.loop-w.done c.run-last.result c.first.ensures.exact c.requires.cover last lt c.loop-w.invariant.runs in
    let end = is.end in
    let order = is.order in
    omega (arith, end, order)

pub deliver-requires-clause-end : goal.deliver-requires-clause-end
deliver-requires-clause-end g c =
    let frames = c.args.frames.now in
    let last = rw c.wave-next.ensures at c.run-last.ensures in
    let lt : min (c.loop-w.w * runs_per_wave) (length c.args.plan.now) < min ((c.loop-w.w + 1) * runs_per_wave) (length c.args.plan.now) = omega (arith, c.loop-w-test.true, c.waves-w-end.ensures) in
    let is = ends_wave frames c.args.plan.now c.first.result (length frames.bodies) _ _ c.loop-w.done c.run-last.result c.first.ensures.exact c.requires.cover last lt c.loop-w.invariant.runs in
    let end = is.end in
    let within = is.within in
    omega (arith, end, within)

pub deliver-requires-clause-few : goal.deliver-requires-clause-few
deliver-requires-clause-few g c =
    let last = laid_last c.args.frames.now.lo c.args.frames.now.bodies c.requires.laid.0 c.loop-w.done c.requires.laid.1 in
    omega (arith, last, c.requires.laid.2, c.requires.short, c.requires.few, c.loop-w.invariant.few)

pub returns-in_err-deliver-clause-comes : goal.returns-in_err-deliver-clause-comes
returns-in_err-deliver-clause-comes g c B =
    let frames = c.args.frames.now in
    let last = rw c.wave-next.ensures at c.run-last.ensures in
    let lt : min (c.loop-w.w * runs_per_wave) (length c.args.plan.now) < min ((c.loop-w.w + 1) * runs_per_wave) (length c.args.plan.now) = omega (arith, c.loop-w-test.true, c.waves-w-end.ensures) in
    let is = ends_wave frames c.args.plan.now c.first.result (length frames.bodies) _ _ c.loop-w.done c.run-last.result c.first.ensures.exact c.requires.cover last lt c.loop-w.invariant.runs in
    let bytes = c.args.bytes.now in
    let n = length frames.bodies in
    let end = c.run-last.result.first_frame - c.first.result + c.run-last.result.frames in
    let rest = between bytes frames end n B in
    let end_is = is.end in
    let order = is.order in
    let within = is.within in
    let parts = between_split bytes frames c.loop-w.done end n B (omega (arith, end_is, order)) (omega (arith, end_is, within)) (omega arith) in
    let broke = rw (sym parts) at (c.in_err-deliver.ensures.comes rest) in
    let p = err_from_is_err_and c.from_residual.result c.from_residual.ensures.1 in
    rw (p.1, p.2)
    (passes_breaks (outcome bytes c.args.decoding.now (between bytes frames 0 n B)) (outcome bytes c.loop-w.decoding (between bytes frames c.loop-w.done n B)) (outlet g.K.Sink.held g.K.Sink.faults c.args.out.now) (outlet g.K.Sink.held g.K.Sink.faults c.loop-w.out) (c.loop-w.invariant.went B)
    (outlet g.K.Sink.held g.K.Sink.faults c.deliver.new.out) c.in_err-deliver.field-0.0 broke)

pub loop-w-init : goal.loop-w-init
loop-w-init g c =
    let none : 0 ≡ min (0 * runs_per_wave) (length c.args.plan.now) = omega arith in
    record {
      runs = ap (λ (i : ℕ). frames_before c.args.plan.now i) none;
      within = omega arith;
      empty = c.requires.empty;
      few = omega arith;
      went = λ B. passes_none _ _ (outlet g.K.Sink.held g.K.Sink.faults c.args.out.now) refl;
      kept = c.requires.kept;
    }

pub loop-w-preserved : goal.loop-w-preserved
loop-w-preserved g c =
    let frames = c.args.frames.now in
    let last = rw c.wave-next.ensures at c.run-last.ensures in
    let lt : min (c.loop-w.w * runs_per_wave) (length c.args.plan.now) < min ((c.loop-w.w + 1) * runs_per_wave) (length c.args.plan.now) = omega (arith, c.loop-w-test.true, c.waves-w-end.ensures) in
    let is = ends_wave frames c.args.plan.now c.first.result (length frames.bodies) _ _ c.loop-w.done c.run-last.result c.first.ensures.exact c.requires.cover last lt c.loop-w.invariant.runs in
    let bytes = c.args.bytes.now in
    let n = length frames.bodies in
    let end = c.run-last.result.first_frame - c.first.result + c.run-last.result.frames in
    let end_is = is.end in
    let order = is.order in
    let within = is.within in
    record {
      runs = end_is;
      within = omega (arith, end_is, within);
      empty = c.in_ok-deliver.ensures.empty;
      few = omega (arith, c.in_ok-deliver.ensures.few, c.loop-w.invariant.few);
      went = λ B. (
          let rest = between bytes frames end n B in
          let parts = between_split bytes frames c.loop-w.done end n B (omega (arith, end_is, order)) (omega (arith, end_is, within)) (omega arith) in
          let came = rw (sym parts) at (c.in_ok-deliver.ensures.comes rest) in
          passes_then (outcome bytes c.args.decoding.now (between bytes frames 0 n B)) (outcome bytes c.loop-w.decoding (between bytes frames c.loop-w.done n B)) (outlet g.K.Sink.held g.K.Sink.faults c.args.out.now) (outlet g.K.Sink.held g.K.Sink.faults c.loop-w.out) (c.loop-w.invariant.went B)
          (outcome bytes c.deliver.new.self rest) (outlet g.K.Sink.held g.K.Sink.faults c.deliver.new.out) came);
      kept = c.in_ok-deliver.ensures.kept;
    }

pub returns-clause-comes : goal.returns-clause-comes
returns-clause-comes g c B =
    let frames = c.args.frames.now in
    let bytes = c.args.bytes.now in
    let n = length frames.bodies in
    let all : length c.args.plan.now ≤ min (c.loop-w.w * runs_per_wave) (length c.args.plan.now) = omega (arith, c.loop-w-test.false, c.waves-w-end.ensures) in
    let whole = whole_cover frames 0 c.args.plan.now n _ c.requires.cover all in
    let none = none_between bytes frames n B c.loop-w.done (omega (arith, whole, c.loop-w.invariant.runs)) in
    passes_on (outcome bytes c.args.decoding.now (between bytes frames 0 n B)) (outcome bytes c.loop-w.decoding (between bytes frames c.loop-w.done n B)) (outlet g.K.Sink.held g.K.Sink.faults c.args.out.now) (outlet g.K.Sink.held g.K.Sink.faults c.loop-w.out) (c.loop-w.invariant.went B)
    (outcome bytes c.loop-w.decoding B) (ap (outcome bytes c.loop-w.decoding) none)
