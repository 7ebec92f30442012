use Rattle.jl_sym_laws.proofs.RunLaws.{groups_alike}
use Rattle.jl_sym_laws.proofs.laws.groups_alike.Goals as goal

pub returns : goal.returns
returns c = groups_alike
