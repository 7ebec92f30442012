use Rattle.jl_compose.proofs.Turning.{groups_alike}
use Rattle.jl_compose.proofs.laws.groups_alike.Goals as goal

pub returns : goal.returns
returns c = groups_alike
