use Rattle.jl_scan.proofs.AskedLemmas.{cost_is_within, cost_spares, costs_are_within}
use Rattle.jl_scan.proofs.laws.costs.Goals as goal

pub returns-clause-within : goal.returns-clause-within
returns-clause-within c = cost_is_within

pub returns-clause-spares : goal.returns-clause-spares
returns-clause-spares c = cost_spares

pub returns-clause-again : goal.returns-clause-again
returns-clause-again c = costs_are_within
