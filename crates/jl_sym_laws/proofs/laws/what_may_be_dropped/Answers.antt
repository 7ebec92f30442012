use Rattle.jl_sym_laws.proofs.Drops.{drops_write, drops_demand}
use Rattle.jl_sym_laws.proofs.Meeting.{drops_written}
use Rattle.jl_sym_laws.proofs.laws.what_may_be_dropped.Goals as goal

pub returns-clause-write : goal.returns-clause-write
returns-clause-write c = drops_write

pub returns-clause-demand : goal.returns-clause-demand
returns-clause-demand c = drops_demand

pub returns-clause-written : goal.returns-clause-written
returns-clause-written c = drops_written
