use Rattle.jl_spell.proofs.RowLaws.{body_back}
use Rattle.jl_spell.proofs.laws.bodies_read_back.Goals as goal

pub returns : goal.returns
returns c = body_back
