use Rattle.std.proofs.Common.{◌∙◌, arith}
use Rattle.std.specs.Option.{option_map}
use Rattle.std.proofs.lemmas.Result.{err_from_is_err_and}
use Rattle.jl_rows.specs.Seen.{row_seen}
use Rattle.jl_rows.proofs.RowWalking.{row_end, row_fault, row_took, row_refused}
use Rattle.jl_rows.proofs.read_row.row_among.Goals as goal

pub returns-in_err-field-clause-exact : goal.returns-in_err-field-clause-exact
returns-in_err-field-clause-exact c =
    let p = err_from_is_err_and c.from_residual.result c.from_residual.ensures.1 in
    rw (p.1, p.2) (c.fields.invariant.rest ∙ row_fault c.args.bytes.now c.fields.place c.args.end (option_map (row_seen c.args.bytes.now) c.fields.found) c.in_err-field.field-0.0 c.requires.inside c.in_err-field.ensures.exact)

pub returns-in_err-take-clause-exact : goal.returns-in_err-take-clause-exact
returns-in_err-take-clause-exact c =
    let said = rw c.in-Some.is at c.in_ok-field.ensures.exact in
    let within = rw c.in-Some.is at c.in_ok-field.ensures.within in
    let p = err_from_is_err_and c.from_residual-in_err-take.result c.from_residual-in_err-take.ensures.1 in
    rw (p.1, p.2) (c.fields.invariant.rest ∙ row_refused c.args.bytes.now c.fields.place c.args.end (option_map (row_seen c.args.bytes.now) c.fields.found) c.in-Some.field said within c.in_err-take.field-0.0 c.in_err-take.ensures.exact)

pub fields-preserved : goal.fields-preserved
fields-preserved c =
    let said = rw c.in-Some.is at c.in_ok-field.ensures.exact in
    let within = rw c.in-Some.is at c.in_ok-field.ensures.within in
    record {
      before = within.before;
      after = omega (arith, within.after, c.fields.invariant.after);
      row = c.in_ok-take.ensures.inside;
      rest = c.fields.invariant.rest ∙ row_took c.args.bytes.now c.fields.place c.args.end (option_map (row_seen c.args.bytes.now) c.fields.found) c.in-Some.field said within (option_map (row_seen c.args.bytes.now) c.take.new.row) c.in_ok-take.ensures.exact;
    }

pub returns-clause-exact : goal.returns-clause-exact
returns-clause-exact c =
    let ended = rw c.in_default.is at c.in_ok-field.ensures.exact in
    c.fields.invariant.rest ∙ row_end c.args.bytes.now c.fields.place c.args.end (option_map (row_seen c.args.bytes.now) c.fields.found) ended
