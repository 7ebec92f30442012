use Rattle.jl_sym_laws.proofs.Compaction.{compacting_keeps}
use Rattle.jl_sym_laws.proofs.Fitting.{compacted_fits}
use Rattle.jl_sym_laws.proofs.laws.compacting_keeps.Goals as goal

pub returns-clause-acts : goal.returns-clause-acts
returns-clause-acts c = compacting_keeps

pub returns-clause-size : goal.returns-clause-size
returns-clause-size c = compacted_fits
