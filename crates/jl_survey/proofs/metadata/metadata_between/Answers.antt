use Rattle.std.proofs.Common.{true, false, arith, eq-eqb}
use Rattle.std.proofs.lemmas.Bool.{ne_eqb}
use Rattle.jl_survey.proofs.MetadataLaws.{metadata_next, metadata_end, metadata_broken}
use Rattle.jl_survey.proofs.metadata.metadata_between.Goals as goal

pub by_field-preserved-then-field-eq15 : goal.by_field-preserved-then-field-eq15
by_field-preserved-then-field-eq15 c =
    let said = rw c.in-Ok-Some.field-0-is at c.in-Ok-Some.ensures in
    let within = said.within in
    let next = metadata_next c.args.bytes.now c.by_field.place c.args.end c.in-Ok-Some.field true (omega (arith, within.after)) within.before said.exact.1 (eq-eqb _ _ c.if-field-eq15.true) in
    record {
      start = omega (arith, within.after, c.by_field.invariant.start);
      inside = within.before;
      few = omega (arith, within.after, c.by_field.invariant.start, c.by_field.invariant.few);
      rest = omega (arith, next, c.by_field.invariant.rest);
    }

pub by_field-preserved : goal.by_field-preserved
by_field-preserved c =
    let said = rw c.in-Ok-Some.field-0-is at c.in-Ok-Some.ensures in
    let within = said.within in
    let next = metadata_next c.args.bytes.now c.by_field.place c.args.end c.in-Ok-Some.field false (omega (arith, within.after)) within.before said.exact.1 (ne_eqb _ _ c.if-field-eq15.false) in
    record {
      start = omega (arith, within.after, c.by_field.invariant.start);
      inside = within.before;
      few = omega (arith, within.after, c.by_field.invariant.start, c.by_field.invariant.few);
      rest = omega (arith, next, c.by_field.invariant.rest);
    }

pub returns-in-Ok-None-clause-exact : goal.returns-in-Ok-None-clause-exact
returns-in-Ok-None-clause-exact c =
    let said = rw c.in-Ok-None.field-0-is at c.in-Ok-None.ensures.exact in
    omega (arith, metadata_end c.args.bytes.now c.by_field.place c.args.end said, c.by_field.invariant.rest)

pub returns-in-Err-clause-exact : goal.returns-in-Err-clause-exact
returns-in-Err-clause-exact c =
    omega (arith, metadata_broken c.args.bytes.now c.by_field.place c.args.end c.in-Err.field-0 c.requires.inside c.in-Err.ensures.exact, c.by_field.invariant.rest)
