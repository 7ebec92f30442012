use Rattle.jl_sym_laws.proofs.SmallLaws.{small_steps_sum}
use Rattle.jl_sym_laws.proofs.RowLaws.{rows_sum}
use Rattle.jl_sym_laws.proofs.laws.steps_sum.Goals as goal

pub returns-clause-small : goal.returns-clause-small
returns-clause-small c = small_steps_sum

pub returns-clause-row : goal.returns-clause-row
returns-clause-row c = rows_sum
