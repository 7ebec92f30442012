use Rattle.std.proofs.Common.{◌+◌, ◌-◌, ◌∙◌, arith, slice_range}
use Rattle.std.proofs.lemmas.Result.{err_from_is_err_and}
use Rattle.jl_base.specs.Results.{joined}
use Rattle.jl_rows.specs.Files.{placed_on, rows}
use Rattle.jl_rows.specs.Seen.{row_seen}
use Rattle.jl_survey.proofs.CountLaws.{few_up_to, grew_then}
use Rattle.jl_survey.proofs.WalkLaws.{at_next_row, at_last_row, at_bad_row, keeps_then, over_then}
use Rattle.jl_survey.specs.Counting.{survey_seen}
use Rattle.jl_survey.proofs.numbers.Survey.rows.Goals as goal

pub take-requires-clause-few : goal.take-requires-clause-few
take-requires-clause-few c =
    let room = c.requires.few.2 in
    let start = c.by_row.invariant.start in
    let inside = c.by_row.invariant.inside in
    few_up_to _ _ c.by_row.self (c.by_row.invariant.few c.requires.few.0 c.requires.few.1) (omega (arith, room, start, inside))

pub returns-in_err-take-in-Ok-Some-clause-comes : goal.returns-in_err-take-in-Ok-Some-clause-comes
returns-in_err-take-in-Ok-Some-clause-comes c kept size bodies B over =
    let said = rw c.in-Ok-Some.field-0-is at c.in-Ok-Some.ensures in
    let bytes = c.args.bytes.now in
    let row = row_seen bytes c.next_row_into.new.row in
    let left = slice_range bytes c.in-Ok-Some.next c.args.end in
    let p = err_from_is_err_and c.from_residual.result c.from_residual.ensures.1 in
    rw (p.1, p.2)
    (c.by_row.invariant.rest kept size bodies B over
    ∙ at_next_row (survey_seen kept c.by_row.self) size bodies B c.args.number c.by_row.before (slice_range bytes c.by_row.at c.args.end) left row said.exact
    ∙ c.in_err-take-in-Ok-Some.ensures.comes kept size bodies (joined (placed_on c.args.number (c.by_row.before + 1) (rows left)) B) (over_then bytes kept c.args.self.now c.by_row.self over c.by_row.invariant.options))

pub by_row-preserved : goal.by_row-preserved
by_row-preserved c =
    let said = rw c.in-Ok-Some.field-0-is at c.in-Ok-Some.ensures in
    let within = said.within in
    let wide = said.wide in
    let bytes = c.args.bytes.now in
    let row = row_seen bytes c.next_row_into.new.row in
    let left = slice_range bytes c.in-Ok-Some.next c.args.end in
    record {
      start = omega (arith, within.0, c.by_row.invariant.start);
      inside = within.1;
      counted = omega (arith, wide, c.by_row.invariant.counted, c.by_row.invariant.start);
      rest = λ kept size bodies B over.
          c.by_row.invariant.rest kept size bodies B over
          ∙ at_next_row (survey_seen kept c.by_row.self) size bodies B c.args.number c.by_row.before (slice_range bytes c.by_row.at c.args.end) left row said.exact
          ∙ c.in_ok-take-in-Ok-Some.ensures.comes kept size bodies (joined (placed_on c.args.number (c.by_row.before + 1) (rows left)) B) (over_then bytes kept c.args.self.now c.by_row.self over c.by_row.invariant.options);
      options = keeps_then bytes c.args.self.now c.by_row.self c.take.new.self c.by_row.invariant.options c.in_ok-take-in-Ok-Some.ensures.options;
      few = grew_then (c.by_row.at - c.args.start) 1 (c.in-Ok-Some.next - c.args.start) c.args.self.now c.by_row.self c.take.new.self c.by_row.invariant.few c.in_ok-take-in-Ok-Some.ensures.few (omega (arith, within.0, c.by_row.invariant.start));
      bytes = c.take.ensures.bytes ∙ c.by_row.invariant.bytes;
    }

pub returns-in-Ok-None-clause-comes : goal.returns-in-Ok-None-clause-comes
returns-in-Ok-None-clause-comes c kept size bodies B over =
    let said = rw c.in-Ok-None.field-0-is at c.in-Ok-None.ensures.exact in
    c.by_row.invariant.rest kept size bodies B over
    ∙ at_last_row (survey_seen kept c.by_row.self) size bodies B c.args.number c.by_row.before (slice_range c.args.bytes.now c.by_row.at c.args.end) said

pub returns-in-Ok-None-clause-few : goal.returns-in-Ok-None-clause-few
returns-in-Ok-None-clause-few c most few =
    let start = c.by_row.invariant.start in
    let inside = c.by_row.invariant.inside in
    few_up_to _ _ c.by_row.self (c.by_row.invariant.few most few) (omega (arith, start, inside))

pub returns-in-Err-clause-comes : goal.returns-in-Err-clause-comes
returns-in-Err-clause-comes c kept size bodies B over =
    c.by_row.invariant.rest kept size bodies B over
    ∙ at_bad_row (survey_seen kept c.by_row.self) size bodies B c.args.number c.by_row.before (slice_range c.args.bytes.now c.by_row.at c.args.end) c.in-Err.kind c.in-Err.ensures.exact
