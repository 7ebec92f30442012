use Rattle.std.proofs.Common.{ap, sym, ◌∙◌, arith, refl}
use Rattle.std.proofs.lemmas.Result.{err_from_is_err_and}
use Rattle.jl_lines.specs.declared.giving.Broken.TheVariants as broken
use Rattle.jl_lines.specs.Going.{outcome}
use Rattle.jl_lines.specs.Giving.{outlet}
use Rattle.jl_frames.specs.Stretches.{between}
use Rattle.jl_lines.specs.Stretches.{left_from, stand_at}
use Rattle.jl_lines.proofs.GivingLemmas.{passes_none, passes_on, passes_then, passes_breaks, passes_delivers, passes_gave, breaks_gave, breaks_halted, breaks_halting, delivers_gave}
use Rattle.jl_lines.proofs.Pages.{kept_anew}
use Rattle.jl_frames.proofs.Stretches.{laid_last}
use Rattle.jl_lines.proofs.Laid.{begins_stand}
use Rattle.jl_lines.proofs.Stretching.{left_begins}
use Rattle.jl_lines.proofs.decoding.Decoding.deliver.Goals as goal

pub by_page-init : goal.by_page-init
by_page-init g c =
    let frames = c.args.frames.now in
    rw c.at-stand.ensures (record {
      is = begins_stand frames c.requires.laid.0 c.args.begin c.args.end c.requires.laid.1 c.requires.begin;
      far = omega arith;
      few = omega arith;
      went = λ B.
          passes_none (outcome c.args.bytes.now c.args.self.now (between c.args.bytes.now frames c.args.begin c.args.end B)) (outcome c.args.bytes.now c.args.self.now (left_from c.args.bytes.now frames (stand_at c.args.begin) c.args.end B)) (outlet g.K.Sink.held g.K.Sink.faults c.args.out.now)
          (ap (outcome c.args.bytes.now c.args.self.now) (sym (left_begins c.args.bytes.now frames c.args.end B c.args.begin)));
      kept = c.requires.kept;
      options = refl;
      writing = refl;
    })

pub stretch-requires-clause-few : goal.stretch-requires-clause-few
stretch-requires-clause-few g c =
    let last = laid_last c.args.frames.now.lo c.args.frames.now.bodies c.requires.laid.0 c.args.end c.requires.laid.1 in
    omega (arith, last, c.requires.laid.2, c.requires.short, c.requires.few, c.by_page.invariant.few, c.by_page.invariant.is.within)

pub returns-in_err-give-in-Ok-Some-clause-comes : goal.returns-in_err-give-in-Ok-Some-clause-comes
returns-in_err-give-in-Ok-Some-clause-comes g c B =
    let bytes = c.args.bytes.now in
    let frames = c.args.frames.now in
    let a = outcome bytes c.args.self.now (between bytes frames c.args.begin c.args.end B) in
    let here = outcome bytes c.by_page.self (left_from bytes frames c.by_page.stand c.args.end B) in
    let rest = left_from bytes frames c.in-Ok-Some.next c.args.end B in
    let k = outlet g.K.Sink.held g.K.Sink.faults c.args.out.now in
    let k' = outlet g.K.Sink.held g.K.Sink.faults c.by_page.out in
    let k'' = outlet g.K.Sink.held g.K.Sink.faults c.give.new.out in
    let comes = rw c.in-Ok-Some.field-0-is at (c.in-Ok-Some.ensures.comes B) in
    let p = err_from_is_err_and c.from_residual.result c.from_residual.ensures.1 in
    rw (p.1, p.2)
    (passes_breaks a (outcome bytes c.stretch.new.self rest) k k' (passes_on a here k k' (c.by_page.invariant.went B) (outcome bytes c.stretch.new.self rest) comes) k'' c.in_err-give-in-Ok-Some.field-0.0
    (breaks_gave bytes c.stretch.new.self c.give.new.self rest k' k'' c.in_err-give-in-Ok-Some.field-0.0 c.in_err-give-in-Ok-Some.ensures.gives))

pub by_page-preserved : goal.by_page-preserved
by_page-preserved g c =
    let bytes = c.args.bytes.now in
    let frames = c.args.frames.now in
    let stand = rw c.in-Ok-Some.field-0-is at c.in-Ok-Some.ensures.stand in
    let few = rw c.in-Ok-Some.field-0-is at c.in-Ok-Some.ensures.few in
    let gave = c.in_ok-give-in-Ok-Some.ensures in
    let k = outlet g.K.Sink.held g.K.Sink.faults c.args.out.now in
    let k' = outlet g.K.Sink.held g.K.Sink.faults c.by_page.out in
    let k'' = outlet g.K.Sink.held g.K.Sink.faults c.give.new.out in
    record {
      is = stand.0;
      far = omega (arith, stand.1, c.by_page.invariant.far);
      few = rw gave.counts (omega (arith, few, c.by_page.invariant.few));
      went = λ B. (
          let a = outcome bytes c.args.self.now (between bytes frames c.args.begin c.args.end B) in
          let here = outcome bytes c.by_page.self (left_from bytes frames c.by_page.stand c.args.end B) in
          let rest = left_from bytes frames c.in-Ok-Some.next c.args.end B in
          let comes = rw c.in-Ok-Some.field-0-is at (c.in-Ok-Some.ensures.comes B) in
          passes_then a (outcome bytes c.stretch.new.self rest) k k' (passes_on a here k k' (c.by_page.invariant.went B) (outcome bytes c.stretch.new.self rest) comes) (outcome bytes c.give.new.self rest) k''
          (passes_gave bytes c.stretch.new.self c.give.new.self rest k' k'' gave.gives gave.empty gave.state gave.counts gave.writing));
      kept = kept_anew bytes c.give.new.self (rw gave.state c.in-Ok-Some.ensures.kept.lawful) gave.kept;
      options = rw gave.state (c.in-Ok-Some.ensures.options ∙ c.by_page.invariant.options);
      writing = gave.writing ∙ c.in-Ok-Some.ensures.writing ∙ c.by_page.invariant.writing;
    }

pub returns-in-Ok-None-clause-comes : goal.returns-in-Ok-None-clause-comes
returns-in-Ok-None-clause-comes g c B =
    let bytes = c.args.bytes.now in
    let frames = c.args.frames.now in
    let a = outcome bytes c.args.self.now (between bytes frames c.args.begin c.args.end B) in
    let here = outcome bytes c.by_page.self (left_from bytes frames c.by_page.stand c.args.end B) in
    let k = outlet g.K.Sink.held g.K.Sink.faults c.args.out.now in
    let k' = outlet g.K.Sink.held g.K.Sink.faults c.by_page.out in
    let k'' = outlet g.K.Sink.held g.K.Sink.faults c.give-in-Ok-None.new.out in
    let comes = rw c.in-Ok-None.field-0-is at (c.in-Ok-None.ensures.comes B) in
    let gave = c.give-in-Ok-None.ensures in
    passes_delivers a (outcome bytes c.stretch.new.self B) k k' k'' (λ x. outcome bytes c.give-in-Ok-None.new.self B) c.give-in-Ok-None.result
    (passes_on a here k k' (c.by_page.invariant.went B) (outcome bytes c.stretch.new.self B) comes)
    (delivers_gave bytes c.stretch.new.self c.give-in-Ok-None.new.self B k' k'' c.give-in-Ok-None.result gave.gives gave.empty gave.state gave.counts gave.writing)

pub returns-in_err-give-in-Err-Malformed-clause-comes : goal.returns-in_err-give-in-Err-Malformed-clause-comes
returns-in_err-give-in-Err-Malformed-clause-comes g c B =
    let bytes = c.args.bytes.now in
    let frames = c.args.frames.now in
    let a = outcome bytes c.args.self.now (between bytes frames c.args.begin c.args.end B) in
    let here = outcome bytes c.by_page.self (left_from bytes frames c.by_page.stand c.args.end B) in
    let k = outlet g.K.Sink.held g.K.Sink.faults c.args.out.now in
    let k' = outlet g.K.Sink.held g.K.Sink.faults c.by_page.out in
    let k'' = outlet g.K.Sink.held g.K.Sink.faults c.give-in-Err-Malformed.new.out in
    let halts = rw c.in-Err-Malformed.field-0-is at (c.in-Err-Malformed.ensures.comes B) in
    let p = err_from_is_err_and c.from_residual-in_err-give-in-Err-Malformed.result c.from_residual-in_err-give-in-Err-Malformed.ensures.1 in
    rw (p.1, p.2)
    (passes_breaks a here k k' (c.by_page.invariant.went B) k'' c.in_err-give-in-Err-Malformed.field-0.0
    (breaks_halting here c.stretch.new.self k' k'' c.in-Err-Malformed.fault c.in_err-give-in-Err-Malformed.field-0.0 halts c.in_err-give-in-Err-Malformed.ensures.gives))

pub returns-in-Err-Malformed-clause-comes : goal.returns-in-Err-Malformed-clause-comes
returns-in-Err-Malformed-clause-comes g c B =
    let bytes = c.args.bytes.now in
    let frames = c.args.frames.now in
    let a = outcome bytes c.args.self.now (between bytes frames c.args.begin c.args.end B) in
    let here = outcome bytes c.by_page.self (left_from bytes frames c.by_page.stand c.args.end B) in
    let k = outlet g.K.Sink.held g.K.Sink.faults c.args.out.now in
    let k' = outlet g.K.Sink.held g.K.Sink.faults c.by_page.out in
    let k'' = outlet g.K.Sink.held g.K.Sink.faults c.give-in-Err-Malformed.new.out in
    let halts = rw c.in-Err-Malformed.field-0-is at (c.in-Err-Malformed.ensures.comes B) in
    rw c.in-Err-Malformed.field-0-is
    (passes_breaks a here k k' (c.by_page.invariant.went B) k'' (broken.Malformed c.in-Err-Malformed.fault) (breaks_halted here c.stretch.new.self k' k'' c.in-Err-Malformed.fault halts c.in_ok-give-in-Err-Malformed.ensures.gives))
