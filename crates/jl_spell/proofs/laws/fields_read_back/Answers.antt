use Rattle.jl_spell.proofs.FieldLaws.{fields_back}
use Rattle.jl_spell.proofs.laws.fields_read_back.Goals as goal

pub returns : goal.returns
returns c = fields_back
