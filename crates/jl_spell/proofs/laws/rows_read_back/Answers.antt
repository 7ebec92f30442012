use Rattle.jl_spell.proofs.RowLaws.{row_back}
use Rattle.jl_spell.proofs.laws.rows_read_back.Goals as goal

pub returns : goal.returns
returns c = row_back
