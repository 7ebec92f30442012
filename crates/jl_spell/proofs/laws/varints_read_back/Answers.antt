use Rattle.jl_spell.proofs.VarintLaws.{varint_back}
use Rattle.jl_spell.proofs.Shortest.{shortest}
use Rattle.jl_spell.proofs.laws.varints_read_back.Goals as goal

pub returns-clause-back : goal.returns-clause-back
returns-clause-back c = varint_back

pub returns-clause-shortest : goal.returns-clause-shortest
returns-clause-shortest c = shortest
