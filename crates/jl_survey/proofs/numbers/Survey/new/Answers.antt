use Rattle.jl_survey.proofs.CountLaws.{all_begins}
use Rattle.jl_survey.proofs.numbers.Survey.new.Goals as goal

pub returns-clause-begins : goal.returns-clause-begins
returns-clause-begins c = all_begins
