use Rattle.std.proofs.Common.{[], refl, None}
use Rattle.std.proofs.lemmas.Result.{err_from_is_err_and}
use Rattle.jl_frames.proofs.Stretches.{index_laid}
use Rattle.jl_survey.proofs.WindowLaws.{room_at_start}
use Rattle.jl_survey.proofs.WholeLaws.{whole_ok, whole_err}
use Rattle.jl_survey.proofs.walk.survey.Goals as goal

pub more-requires-clause-laid : goal.more-requires-clause-laid
more-requires-clause-laid c = index_laid c.args.space.now c.args.frames.now c.requires.index

pub more-requires-clause-few : goal.more-requires-clause-few
more-requires-clause-few c = room_at_start c.args.space.now c.args.frames.now c.new-survey.result c.new-survey.ensures.empty (index_laid c.args.space.now c.args.frames.now c.requires.index) c.requires.short

pub returns-clause-exact : goal.returns-clause-exact
returns-clause-exact c =
    let comes = c.in_ok-more.ensures.comes c.args.space.now 0 [] (record { items = []; fault = None }) (λ none. refl) in
    whole_ok c.args.space.now c.args.frames.now c.requires.index c.new-survey.result c.more.new.self c.new-survey.ensures.begins comes

pub returns-in_err-more-clause-exact : goal.returns-in_err-more-clause-exact
returns-in_err-more-clause-exact c =
    let p = err_from_is_err_and c.from_residual.result c.from_residual.ensures.1 in
    let comes = c.in_err-more.ensures.comes c.args.space.now 0 [] (record { items = []; fault = None }) (λ none. refl) in
    rw (p.1, p.2) (whole_err c.args.space.now c.args.frames.now c.requires.index c.new-survey.result c.more.new.self c.new-survey.ensures.begins _ comes)

pub returns-clause-passed : goal.returns-clause-passed
returns-clause-passed c = c.in_ok-more.ensures.options.passed (rw c.new-survey.ensures.empty refl)
