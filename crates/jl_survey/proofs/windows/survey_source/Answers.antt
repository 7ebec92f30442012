use Rattle.jl_survey.proofs.windows.survey_source.Goals as goal

pub returns-then-last : goal.returns-then-last
returns-then-last g c =
    rw c.if-last.true at (c.in_ok-last.ensures.comes (g.S.Source.told c.args.source.now) c.args.left.now c.windows.invariant.surveying)
