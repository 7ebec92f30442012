use Rattle.std.proofs.Common.{◌∙◌, arith}
use Rattle.std.proofs.lemmas.Result.{err_from_is_err_and}
use Rattle.jl_rows.specs.Reading.{plain}
use Rattle.jl_rows.specs.Seen.{parts_seen}
use Rattle.jl_rows.proofs.Walking.{read_end, read_fault, read_took, read_refused}
use Rattle.jl_rows.proofs.read.read_plain.Goals as goal

pub returns-in_err-field-clause-exact : goal.returns-in_err-field-clause-exact
returns-in_err-field-clause-exact c =
    let p = err_from_is_err_and c.from_residual.result c.from_residual.ensures.1 in
    rw (p.1, p.2) (c.fields.invariant.rest ∙ read_fault plain c.args.m c.args.bytes.now c.fields.place c.args.end (parts_seen c.args.bytes.now c.fields.found) c.in_err-field.field-0.0 c.requires.inside c.in_err-field.ensures.exact)

pub returns-in_err-take_plain-clause-exact : goal.returns-in_err-take_plain-clause-exact
returns-in_err-take_plain-clause-exact c =
    let said = rw c.in-Some.is at c.in_ok-field.ensures.exact in
    let within = rw c.in-Some.is at c.in_ok-field.ensures.within in
    let p = err_from_is_err_and c.from_residual-in_err-take_plain.result c.from_residual-in_err-take_plain.ensures.1 in
    rw (p.1, p.2) (c.fields.invariant.rest ∙ read_refused plain c.args.m c.args.bytes.now c.fields.place c.args.end (parts_seen c.args.bytes.now c.fields.found) c.in-Some.field said within c.in_err-take_plain.field-0.0 c.in_err-take_plain.ensures.exact)

pub fields-preserved : goal.fields-preserved
fields-preserved c =
    let said = rw c.in-Some.is at c.in_ok-field.ensures.exact in
    let within = rw c.in-Some.is at c.in_ok-field.ensures.within in
    record {
      before = within.before;
      after = omega (arith, within.after, c.fields.invariant.after);
      parts = c.in_ok-take_plain.ensures.parts;
      rest = c.fields.invariant.rest ∙ read_took plain c.args.m c.args.bytes.now c.fields.place c.args.end (parts_seen c.args.bytes.now c.fields.found) c.in-Some.field said within (parts_seen c.args.bytes.now c.take_plain.new.found) c.in_ok-take_plain.ensures.exact;
    }

pub returns-clause-exact : goal.returns-clause-exact
returns-clause-exact c =
    let ended = rw c.in_default.is at c.in_ok-field.ensures.exact in
    c.fields.invariant.rest ∙ read_end plain c.args.m c.args.bytes.now c.fields.place c.args.end (parts_seen c.args.bytes.now c.fields.found) ended
