use Rattle.jl_sym_laws.proofs.RunLaws.{readings_sum, readings_timed, joined_sum, row_sums, fault_sums}
use Rattle.jl_sym_laws.proofs.laws.runs_sum.Goals as goal

pub returns-clause-reading : goal.returns-clause-reading
returns-clause-reading c = readings_sum

pub returns-clause-timed : goal.returns-clause-timed
returns-clause-timed c = readings_timed

pub returns-clause-joined : goal.returns-clause-joined
returns-clause-joined c = joined_sum

pub returns-clause-row : goal.returns-clause-row
returns-clause-row c = row_sums

pub returns-clause-fault : goal.returns-clause-fault
returns-clause-fault c = fault_sums
