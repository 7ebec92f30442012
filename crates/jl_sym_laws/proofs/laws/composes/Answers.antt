use Rattle.jl_sym_laws.proofs.Composition.{composes}
use Rattle.jl_sym_laws.proofs.Times.{stays_timed}
use Rattle.jl_sym_laws.proofs.laws.composes.Goals as goal

pub returns-clause-acts : goal.returns-clause-acts
returns-clause-acts c = composes

pub returns-clause-timed : goal.returns-clause-timed
returns-clause-timed c = stays_timed
