use Rattle.jl_sym_laws.proofs.Staying.{opening_settled, rows_settle, sums_settle}
use Rattle.jl_sym_laws.proofs.laws.ids_settle.Goals as goal

pub returns-clause-opening : goal.returns-clause-opening
returns-clause-opening c = opening_settled

pub returns-clause-rows : goal.returns-clause-rows
returns-clause-rows c = rows_settle

pub returns-clause-summary : goal.returns-clause-summary
returns-clause-summary c = sums_settle
