use Rattle.std.proofs.Common.{◌∙◌, sym, arith, Some, None}
use Rattle.std.proofs.lemmas.Result.{err_from_is_err_and}
use Rattle.jl_rows.specs.Seen.{row_seen}
use Rattle.jl_rows.proofs.RowWalking.{row_is_wide, end_here, end_later, rows_end, rows_fault, rows_took, rows_refused}
use Rattle.jl_rows.proofs.read_row.any_row_at.Goals as goal

pub returns-in_err-field-clause-exact : goal.returns-in_err-field-clause-exact
returns-in_err-field-clause-exact c =
    let p = err_from_is_err_and c.from_residual.result c.from_residual.ensures.1 in
    rw (p.1, p.2) (c.fields.invariant.rest ∙ rows_fault c.args.bytes.now c.fields.place c.args.end c.in_err-field.field-0.0 c.requires.inside c.in_err-field.ensures.exact)

pub returns-in_err-row-clause-exact : goal.returns-in_err-row-clause-exact
returns-in_err-row-clause-exact c =
    let said = rw c.in-Some.is at c.in_ok-field.ensures.exact in
    let within = rw c.in-Some.is at c.in_ok-field.ensures.within in
    let p = err_from_is_err_and c.from_residual-in_err-row.result c.from_residual-in_err-row.ensures.1 in
    rw (p.1, p.2) (c.fields.invariant.rest ∙ rows_refused c.args.bytes.now c.fields.place c.args.end c.in-Some.field said within c.in_err-row.field-0.0 c.in_err-row.ensures.exact)

pub returns-in-Some-2-clause-exact : goal.returns-in-Some-2-clause-exact
returns-in-Some-2-clause-exact c =
    let said = rw c.in-Some.is at c.in_ok-field.ensures.exact in
    let within = rw c.in-Some.is at c.in_ok-field.ensures.within in
    let found = rw c.in-Some-2.is at c.in_ok-row.ensures.exact in
    c.fields.invariant.rest ∙ rows_took c.args.bytes.now c.fields.place c.args.end c.in-Some.field said within (Some (row_seen c.args.bytes.now c.in-Some-2.row)) found

pub returns-in-Some-2-clause-wide : goal.returns-in-Some-2-clause-wide
returns-in-Some-2-clause-wide c =
    let said = rw c.in-Some.is at c.in_ok-field.ensures.exact in
    let found = rw c.in-Some-2.is at c.in_ok-row.ensures.exact in
    let wide = row_is_wide c.args.bytes.now c.fields.place c.args.end c.in-Some.field said (row_seen c.args.bytes.now c.in-Some-2.row) found in
    omega (arith, wide, c.fields.invariant.after)

pub returns-in-Some-2-clause-place : goal.returns-in-Some-2-clause-place
returns-in-Some-2-clause-place c =
    let said = rw c.in-Some.is at c.in_ok-field.ensures.exact in
    let within = rw c.in-Some.is at c.in_ok-field.ensures.within in
    let found = rw c.in-Some-2.is at c.in_ok-row.ensures.exact in
    end_here c.args.bytes.now c.fields.place c.args.end c.in-Some.field said within (row_seen c.args.bytes.now c.in-Some-2.row) found ∙ sym c.fields.invariant.ends

pub fields-preserved : goal.fields-preserved
fields-preserved c =
    let said = rw c.in-Some.is at c.in_ok-field.ensures.exact in
    let within = rw c.in-Some.is at c.in_ok-field.ensures.within in
    let found = rw c.in_default-2.is at c.in_ok-row.ensures.exact in
    record {
      before = within.before;
      after = omega (arith, within.after, c.fields.invariant.after);
      rest = c.fields.invariant.rest ∙ rows_took c.args.bytes.now c.fields.place c.args.end c.in-Some.field said within None found;
      ends = c.fields.invariant.ends ∙ end_later c.args.bytes.now c.fields.place c.args.end c.in-Some.field said within found;
    }

pub returns-clause-exact : goal.returns-clause-exact
returns-clause-exact c =
    let ended = rw c.in_default.is at c.in_ok-field.ensures.exact in
    c.fields.invariant.rest ∙ rows_end c.args.bytes.now c.fields.place c.args.end ended
