use Rattle.jl_sym_laws.proofs.RunLaws.{unit_does_nothing, unit_before, unit_after}
use Rattle.jl_sym_laws.proofs.laws.unit_is_neutral.Goals as goal

pub returns-clause-alone : goal.returns-clause-alone
returns-clause-alone c = unit_does_nothing

pub returns-clause-before : goal.returns-clause-before
returns-clause-before c = unit_before

pub returns-clause-after : goal.returns-clause-after
returns-clause-after c = unit_after
