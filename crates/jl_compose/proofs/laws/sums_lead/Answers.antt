use Rattle.jl_compose.proofs.Turning.{sums_on_settled, leads_on_settled, sums_lead, alike_sum, alike_lead}
use Rattle.jl_compose.proofs.laws.sums_lead.Goals as goal

pub returns-clause-sums : goal.returns-clause-sums
returns-clause-sums c = sums_on_settled

pub returns-clause-leads : goal.returns-clause-leads
returns-clause-leads c = leads_on_settled

pub returns-clause-summed : goal.returns-clause-summed
returns-clause-summed c = sums_lead

pub returns-clause-alike : goal.returns-clause-alike
returns-clause-alike c = alike_sum

pub returns-clause-alike_leads : goal.returns-clause-alike_leads
returns-clause-alike_leads c = alike_lead
