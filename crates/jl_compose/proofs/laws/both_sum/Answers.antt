use Rattle.jl_compose.proofs.Turning.{both_sum, both_lead_settled}
use Rattle.jl_compose.proofs.laws.both_sum.Goals as goal

pub returns-clause-sums : goal.returns-clause-sums
returns-clause-sums c = both_sum

pub returns-clause-leads : goal.returns-clause-leads
returns-clause-leads c = both_lead_settled
