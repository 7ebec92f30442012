use Rattle.std.proofs.Common.{◌≡◌, ◌+◌, ◌-◌, ◌*◌, ◌<◌, ◌++◌, ◌∙◌, ap, arith, length, map, slice_range, take}
use Rattle.std.proofs.lemmas.Result.{err_from_is_err_and}
use Rattle.jl_base.specs.Spans.{text_of}
use Rattle.jl_frames.specs.Index.{last_end}
use Rattle.jl_frames.specs.Stretches.{between}
use Rattle.jl_survey.specs.Counting.{survey_seen, size_of}
use Rattle.jl_survey.proofs.CountLaws.{grew_then, few_up_to}
use Rattle.jl_survey.proofs.WalkLaws.{keeps_then, over_then}
use Rattle.jl_survey.proofs.WindowLaws.{frames_next, frames_done, fits_more, part_of, within_of}
use Rattle.jl_survey.proofs.numbers.Survey.frames_in.Goals as goal

pub frame-requires-clause-inside : goal.frame-requires-clause-inside
frame-requires-clause-inside c = (within_of c.args.bytes.now c.args.frames.now c.loop-i.i c.frame-body.result c.requires.laid c.frame-body.ensures).inside

pub frame-requires-clause-few : goal.frame-requires-clause-few
frame-requires-clause-few c =
    let index = c.args.frames.now in
    let w = within_of c.args.bytes.now index c.loop-i.i c.frame-body.result c.requires.laid c.frame-body.ensures in
    let above = w.above in
    let within = w.within in
    fits_more (2 * size_of index) (2 * (last_end index.lo (take c.loop-i.i index.bodies) - index.lo)) (2 * (c.frame-body.result.len + 1)) c.args.self.now c.loop-i.self c.requires.few c.loop-i.invariant.few (omega (arith, above, within))

pub returns-in_err-frame-clause-comes : goal.returns-in_err-frame-clause-comes
returns-in_err-frame-clause-comes c kept size bodies B over =
    let bytes = c.args.bytes.now in
    let index = c.args.frames.now in
    let n = length index.bodies in
    let lt : c.loop-i.i < n = omega arith in
    let number : c.first.result + c.loop-i.i ≡ index.first + c.loop-i.i = ap (λ (k : _). k + c.loop-i.i) c.first.ensures.exact in
    let p = err_from_is_err_and c.from_residual.result c.from_residual.ensures.1 in
    rw (p.1, p.2)
    (c.loop-i.invariant.rest kept size bodies B over
    ∙ frames_next bytes index (survey_seen kept c.loop-i.self) size bodies B c.loop-i.i (c.first.result + c.loop-i.i) c.frame-body.result lt number c.frame-body.ensures
    ∙ c.in_err-frame.ensures.comes kept size (map (text_of bytes) (slice_range index.bodies (c.loop-i.i + 1) n) ++ bodies) (between bytes index (c.loop-i.i + 1) n B) (over_then bytes kept c.args.self.now c.loop-i.self over c.loop-i.invariant.options))

pub loop-i-preserved : goal.loop-i-preserved
loop-i-preserved c =
    let bytes = c.args.bytes.now in
    let index = c.args.frames.now in
    let n = length index.bodies in
    let lt : c.loop-i.i < n = omega arith in
    let number : c.first.result + c.loop-i.i ≡ index.first + c.loop-i.i = ap (λ (k : _). k + c.loop-i.i) c.first.ensures.exact in
    let w = within_of bytes index c.loop-i.i c.frame-body.result c.requires.laid c.frame-body.ensures in
    let above = w.above in
    let next = w.next in
    record {
      rest = λ kept size bodies B over.
          c.loop-i.invariant.rest kept size bodies B over
          ∙ frames_next bytes index (survey_seen kept c.loop-i.self) size bodies B c.loop-i.i (c.first.result + c.loop-i.i) c.frame-body.result lt number c.frame-body.ensures
          ∙ c.in_ok-frame.ensures.comes kept size (map (text_of bytes) (slice_range index.bodies (c.loop-i.i + 1) n) ++ bodies) (between bytes index (c.loop-i.i + 1) n B) (over_then bytes kept c.args.self.now c.loop-i.self over c.loop-i.invariant.options);
      options = keeps_then bytes c.args.self.now c.loop-i.self c.frame.new.self c.loop-i.invariant.options c.in_ok-frame.ensures.options;
      few = grew_then (2 * (last_end index.lo (take c.loop-i.i index.bodies) - index.lo)) (2 * (c.frame-body.result.len + 1)) (2 * (last_end index.lo (take (c.loop-i.i + 1) index.bodies) - index.lo)) c.args.self.now c.loop-i.self c.frame.new.self
          c.loop-i.invariant.few c.in_ok-frame.ensures.few (omega (arith, above, next));
      bytes = c.frame.ensures.bytes ∙ c.loop-i.invariant.bytes;
    }

pub returns-clause-comes : goal.returns-clause-comes
returns-clause-comes c kept size bodies B over =
    c.loop-i.invariant.rest kept size bodies B over
    ∙ frames_done c.args.bytes.now c.args.frames.now (survey_seen kept c.loop-i.self) size bodies B c.loop-i.i (omega arith)

pub returns-clause-few : goal.returns-clause-few
returns-clause-few c most few =
    let part = part_of c.args.bytes.now c.args.frames.now c.loop-i.i c.requires.laid in
    few_up_to _ _ c.loop-i.self (c.loop-i.invariant.few most few) (omega (arith, part))
