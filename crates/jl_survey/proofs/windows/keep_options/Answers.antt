use Rattle.jl_rows.proofs.Carrying.{grows_same}
use Rattle.jl_survey.proofs.WindowedLaws.{seen_brought}
use Rattle.std.proofs.Common.{subst}
use Rattle.jl_survey.specs.Counting.{HaveAllPassed}
use Rattle.jl_survey.proofs.windows.keep_options.Goals as goal

pub returns-clause-seen : goal.returns-clause-seen
returns-clause-seen c =
    let carried = c.in_ok-carry.ensures.carries c.carry.new.into (grows_same c.carry.new.into) in
    seen_brought c.args.had c.args.kept.now c.args.space.now c.carry.new.into c.args.survey.now c.in-Some.options c.in_ok-carry.field-0 c.if-had.false c.in-Some.is carried.seen

pub returns-clause-passed : goal.returns-clause-passed
returns-clause-passed c known =
    let carried = c.in_ok-carry.ensures.carries c.carry.new.into (grows_same c.carry.new.into) in
    carried.passed (subst (HaveAllPassed c.args.space.now) c.in-Some.is (c.requires c.if-had.false))
