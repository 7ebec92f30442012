use Rattle.jl_sym_laws.proofs.Made.{readings_made, made_stays, fitted_is_made}
use Rattle.jl_sym_laws.proofs.laws.summaries_of_rows.Goals as goal

pub returns-clause-reading : goal.returns-clause-reading
returns-clause-reading c = readings_made

pub returns-clause-composed : goal.returns-clause-composed
returns-clause-composed c = made_stays

pub returns-clause-fitted : goal.returns-clause-fitted
returns-clause-fitted c = fitted_is_made
