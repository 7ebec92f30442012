use Rattle.std.proofs.Common.{◌+◌, ◌-◌, ◌*◌, [], ◌∙◌, ap, sym, arith}
use Rattle.jl_base.specs.Results.{joined}
use Rattle.jl_base.specs.Spans.{text_of}
use Rattle.jl_rows.specs.Files.{frame_rows}
use Rattle.jl_survey.specs.Surveys.{Surveyed}
use Rattle.jl_survey.specs.Counting.{survey_seen, outlook}
use Rattle.jl_survey.proofs.CountLaws.{frame_counted, grew_frame, grew_then}
use Rattle.jl_survey.proofs.WindowLaws.{fits_more}
use Rattle.jl_survey.proofs.WalkLaws.{comes_alike, on_ok, keeps_then, keeps_as, over_then}
use Rattle.jl_survey.proofs.numbers.Survey.frame.Goals as goal

pub returns-clause-comes : goal.returns-clause-comes
returns-clause-comes c kept size bodies B over =
    let bytes = c.args.bytes.now in
    let body = text_of bytes c.args.body in
    let R = joined (frame_rows c.args.number body) B in
    let keeps = keeps_as bytes c.args.self.now c.add_frame.new.self c.add_frame.ensures.options in
    comes_alike _ _ _ c.rows.result
    (frame_counted (survey_seen kept c.args.self.now) size bodies body R ∙ ap (λ (t : Surveyed). outlook t size bodies R) (sym (c.add_frame.ensures.more kept)))
    (c.rows.ensures.comes kept size bodies B (over_then bytes kept c.args.self.now c.add_frame.new.self over keeps))

pub returns-clause-options : goal.returns-clause-options
returns-clause-options c = on_ok c.rows.result (keeps_then c.args.bytes.now c.args.self.now c.add_frame.new.self c.rows.new.self (keeps_as c.args.bytes.now c.args.self.now c.add_frame.new.self c.add_frame.ensures.options)) c.rows.ensures.options

pub rows-requires-clause-few : goal.rows-requires-clause-few
rows-requires-clause-few c =
    let n = c.args.body.at + c.args.body.len - c.args.body.at in
    let grew = grew_frame [] (text_of c.args.bytes.now c.args.body) n c.args.self.now c.add_frame.new.self (c.add_frame.ensures.more []) c.add_frame.ensures.metadata in
    fits_more (2 * (c.args.body.len + 1)) (n + 1) n c.args.self.now c.add_frame.new.self c.requires.few grew (omega arith)

pub returns-clause-few : goal.returns-clause-few
returns-clause-few c =
    let n = c.args.body.at + c.args.body.len - c.args.body.at in
    let grew = grew_frame [] (text_of c.args.bytes.now c.args.body) n c.args.self.now c.add_frame.new.self (c.add_frame.ensures.more []) c.add_frame.ensures.metadata in
    on_ok c.rows.result (λ g. grew_then (n + 1) n (2 * (c.args.body.len + 1)) c.args.self.now c.add_frame.new.self c.rows.new.self grew g (omega arith)) c.rows.ensures.few
