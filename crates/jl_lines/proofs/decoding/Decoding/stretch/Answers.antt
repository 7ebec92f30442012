use Rattle.std.proofs.Common.{◌≡◌, ◌+◌, ◌-◌, ◌≤◌, ◌<◌, ◌∙◌, refl, subst, sym, arith}
use Rattle.std.proofs.lemmas.Result.{err_from_is_err_and}
use Rattle.jl_base.specs.declared.place.Span.{Span}
use Rattle.jl_lines.specs.Going.{outcome}
use Rattle.jl_lines.specs.Stretches.{left_from, stand_at}
use Rattle.jl_lines.proofs.GoingLemmas.{halts_then}
use Rattle.jl_frames.proofs.Stretches.{laid_count, laid_order}
use Rattle.jl_lines.proofs.Laid.{begins_stand, stand_in}
use Rattle.jl_lines.proofs.Stretching.{left_enters}
use Rattle.jl_lines.proofs.decoding.Decoding.stretch.Goals as goal

pub by_frame-init : goal.by_frame-init
by_frame-init c = record {
  is = c.requires.stand;
  far = omega arith;
  few = omega arith;
  went = λ B. refl;
  kept = c.requires.kept;
  options = refl;
  writing = refl;
}

pub overflow_add-frame : goal.overflow_add-frame
overflow_add-frame c =
    let count = laid_count c.args.frames.now.lo c.args.frames.now.bodies c.requires.laid.0 c.requires.laid.1 in
    omega (arith, count, c.requires.laid.2, c.requires.short, c.first.ensures.few, c.by_frame-test.true, c.requires.end)

pub overflow_add-frame-in-by_frame : goal.overflow_add-frame-in-by_frame
overflow_add-frame-in-by_frame c =
    let is = stand_in c.args.frames.now c.requires.laid.0 c.args.end c.by_frame.stand c.frame-body.result c.requires.laid.1 c.frame-body.ensures c.by_frame.invariant.is in
    let within = is.within in
    omega (arith, within, c.requires.laid.2, c.requires.short)

pub overflow_add-at : goal.overflow_add-at
overflow_add-at c =
    let is = stand_in c.args.frames.now c.requires.laid.0 c.args.end c.by_frame.stand c.frame-body.result c.requires.laid.1 c.frame-body.ensures c.by_frame.invariant.is in
    let within = is.within in
    let inside = is.inside in
    omega (arith, within, inside, c.requires.laid.2, c.requires.short)

pub rows-requires-clause-inside : goal.rows-requires-clause-inside
rows-requires-clause-inside c =
    let is = stand_in c.args.frames.now c.requires.laid.0 c.args.end c.by_frame.stand c.frame-body.result c.requires.laid.1 c.frame-body.ensures c.by_frame.invariant.is in
    let within = is.within in
    omega (arith, within, c.requires.laid.2)

pub rows-requires-clause-few : goal.rows-requires-clause-few
rows-requires-clause-few c =
    let is = stand_in c.args.frames.now c.requires.laid.0 c.args.end c.by_frame.stand c.frame-body.result c.requires.laid.1 c.frame-body.ensures c.by_frame.invariant.is in
    let within = is.within in
    let inside = is.inside in
    let above = is.above in
    omega (arith, within, inside, above, c.requires.laid.2, c.requires.short, c.requires.few, c.by_frame.invariant.few)

pub returns-in_err-next-clause-comes : goal.returns-in_err-next-clause-comes
returns-in_err-next-clause-comes c B =
    let bytes = c.args.bytes.now in
    let frames = c.args.frames.now in
    let before : c.by_frame.stand.frame < c.args.end = omega (arith, c.by_frame-test.true) in
    let into = left_enters bytes frames c.args.end B c.by_frame.stand c.frame-body.result before c.frame-body.ensures in
    let rest = left_from bytes frames (stand_at (c.by_frame.stand.frame + 1)) c.args.end B in
    let halts = rw (c.first.ensures.exact, sym into) at (c.in_err-next.ensures.comes rest) in
    let p = err_from_is_err_and c.from_residual.result c.from_residual.ensures.1 in
    rw (p.1, p.2)
    (halts_then (outcome bytes c.args.self.now (left_from bytes frames c.args.from c.args.end B)) (outcome bytes c.by_frame.self (left_from bytes frames c.by_frame.stand c.args.end B)) c.rows.new.self c.in_err-next.field-0.0
    (c.by_frame.invariant.went B) halts)

pub returns-in-Some-clause-comes : goal.returns-in-Some-clause-comes
returns-in-Some-clause-comes c B =
    let bytes = c.args.bytes.now in
    let frames = c.args.frames.now in
    let body = c.frame-body.result in
    let k = c.by_frame.stand.frame in
    let rest = left_from bytes frames (stand_at (k + 1)) c.args.end B in
    let within = rw c.in-Some.is at c.in_ok-next.ensures.within in
    let here : body.at + (c.in-Some.next - body.at) ≡ c.in-Some.next = omega (arith, within.0) in
    let before : k < c.args.end = omega (arith, c.by_frame-test.true) in
    let into = left_enters bytes frames c.args.end B c.by_frame.stand body before c.frame-body.ensures in
    let out = left_enters bytes frames c.args.end B (record { frame = k; place = c.in-Some.next - body.at; before = c.in-Some.before }) body before c.frame-body.ensures in
    let comes = rw c.in-Some.is at (c.in_ok-next.ensures.comes rest) in
    let came = rw (c.first.ensures.exact, sym into, sym here, sym out) at comes in
    c.by_frame.invariant.went B ∙ came

pub returns-in-Some-clause-stand : goal.returns-in-Some-clause-stand
returns-in-Some-clause-stand c =
    let frames = c.args.frames.now in
    let body = c.frame-body.result in
    let within = rw c.in-Some.is at c.in_ok-next.ensures.within in
    let is = stand_in frames c.requires.laid.0 c.args.end c.by_frame.stand body c.requires.laid.1 c.frame-body.ensures c.by_frame.invariant.is in
    let above = is.above in
    let next = is.next in
    let order = laid_order frames.lo frames.bodies c.requires.laid.0 (c.by_frame.stand.frame + 1) c.args.end c.requires.laid.1 (omega (arith, c.by_frame-test.true)) in
    let on : c.in-Some.next - body.at ≤ body.len = omega (arith, within.1) in (
      record {
        reached = omega (arith, c.by_frame-test.true);
        inside = λ b e. (let same : body ≡ b = (let here = c.frame-body.ensures in cc) in subst (λ (x : Span). c.in-Some.next - body.at ≤ x.len) same on);
        counted = omega (arith, within.0, within.2, c.by_frame.invariant.is.counted);
        within = omega (arith, within.1, above, next, order);
      },
      omega (arith, within.0, c.by_frame.invariant.far),
    )

pub by_frame-preserved : goal.by_frame-preserved
by_frame-preserved c =
    let bytes = c.args.bytes.now in
    let frames = c.args.frames.now in
    let body = c.frame-body.result in
    let k = c.by_frame.stand.frame in
    let is = stand_in frames c.requires.laid.0 c.args.end c.by_frame.stand body c.requires.laid.1 c.frame-body.ensures c.by_frame.invariant.is in
    let above = is.above in
    let next = is.next in
    let inside = is.inside in
    rw c.at-stand.ensures (record {
      is = begins_stand frames c.requires.laid.0 (k + 1) c.args.end c.requires.laid.1 (omega (arith, c.by_frame-test.true));
      far = omega (arith, above, next, inside, c.by_frame.invariant.far);
      few = omega (arith, above, next, c.in_ok-next.ensures.few, c.by_frame.invariant.few);
      went = λ B. (
          let rest = left_from bytes frames (stand_at (k + 1)) c.args.end B in
          let before : k < c.args.end = omega (arith, c.by_frame-test.true) in
          let into = left_enters bytes frames c.args.end B c.by_frame.stand body before c.frame-body.ensures in
          let comes = rw c.in-None.is at (c.in_ok-next.ensures.comes rest) in
          let came = rw (c.first.ensures.exact, sym into) at comes in
          c.by_frame.invariant.went B ∙ came);
      kept = c.in_ok-next.ensures.kept;
      options = c.in_ok-next.ensures.options ∙ c.by_frame.invariant.options;
      writing = c.in_ok-next.ensures.writing ∙ c.by_frame.invariant.writing;
    })

pub returns-clause-few : goal.returns-clause-few
returns-clause-few c = omega (arith, c.by_frame.invariant.few, c.by_frame.invariant.is.within)
