use Rattle.jl_sym_laws.proofs.DecodeLaws.{sums_summarise, joined_summarise}
use Rattle.jl_sym_laws.proofs.laws.summarises.Goals as goal

pub returns-clause-reading : goal.returns-clause-reading
returns-clause-reading c = sums_summarise

pub returns-clause-joined : goal.returns-clause-joined
returns-clause-joined c = joined_summarise
