use Rattle.jl_survey.proofs.Appending.{three_appended}
use Rattle.jl_survey.proofs.report.push_graph_lines.Goals as goal

pub returns : goal.returns
returns c = three_appended _ _ _ _ _ _ _ c.in_ok-push_number_line.ensures c.in_ok-push_number_line-2.ensures c.in_ok-push_number_line-3.ensures
