use Rattle.std.proofs.Common.{arith}
use Rattle.jl_rows.proofs.UsualFields.{counted_in_front}
use Rattle.jl_rows.proofs.short_fields.counted.Goals as goal

pub returns : goal.returns
returns c = counted_in_front _ _ _ _ _ c.in_ok-len.ensures (omega arith) (omega arith) c.requires.inside
