use Rattle.jl_top.proofs.JobLemmas.{first_is, first_within}
use Rattle.jl_top.proofs.run.first.Goals as goal

pub returns-clause-is : goal.returns-clause-is
returns-clause-is c = first_is c.args.files.now c.at.result.now c.at.ensures

pub returns-clause-within : goal.returns-clause-within
returns-clause-within c = first_within c.args.files.now c.at.result.now c.at.ensures
