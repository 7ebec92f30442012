use Rattle.std.proofs.Common.{arith}
use Rattle.jl_rows.proofs.UsualFields.{number_is_there}
use Rattle.jl_rows.proofs.short_fields.number.Goals as goal

pub returns : goal.returns
returns c = number_is_there _ _ _ _ _ c.in_ok-n.ensures c.requires.above c.requires.below (omega arith)
