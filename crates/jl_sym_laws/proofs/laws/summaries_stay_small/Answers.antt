use Rattle.jl_sym_laws.proofs.Made.{fitted_summarises, fitted_is_small}
use Rattle.jl_sym_laws.proofs.laws.summaries_stay_small.Goals as goal

pub returns-clause-acts : goal.returns-clause-acts
returns-clause-acts c = fitted_summarises

pub returns-clause-size : goal.returns-clause-size
returns-clause-size c = fitted_is_small
