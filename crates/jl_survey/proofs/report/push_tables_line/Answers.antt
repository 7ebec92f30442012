use Rattle.jl_survey.proofs.Appending.{four_appended}
use Rattle.jl_survey.specs.Reports.{tables_line}
use Rattle.jl_survey.proofs.report.push_tables_line.Goals as goal

pub returns : goal.returns
unfolding tables_line
returns c = four_appended _ _ _ _ _ _ _ _ _ c.in_ok-push_value.ensures c.in_ok-push_value-2.ensures c.in_ok-push_value-3.ensures c.in_ok-push.ensures.items
