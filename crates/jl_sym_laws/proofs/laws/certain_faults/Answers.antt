use Rattle.jl_sym_laws.proofs.Cuts.{stands_sized, cut_keeps, cut_is_in}
use Rattle.jl_sym_laws.proofs.laws.certain_faults.Goals as goal

pub returns-clause-sized : goal.returns-clause-sized
returns-clause-sized c = stands_sized

pub returns-clause-acts : goal.returns-clause-acts
returns-clause-acts c = cut_keeps

pub returns-clause-inside : goal.returns-clause-inside
returns-clause-inside c = cut_is_in
