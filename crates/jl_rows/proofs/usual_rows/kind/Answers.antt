use Rattle.std.proofs.Common.{refl, arith}
use Rattle.jl_rows.specs.declared.message.Sort.{Sort}
use Rattle.jl_rows.proofs.usual_rows.kind.Goals as goal

pub returns-then-tag-eq18 : goal.returns-then-tag-eq18
returns-then-tag-eq18 c = λ said. record { number = 2; above = omega arith; below = omega arith; sort = Sort.Triple; tag_is = c.if-tag-eq18.true; sort_is = refl; said = c.triple.ensures said }

pub returns-then-tag-eq26 : goal.returns-then-tag-eq26
returns-then-tag-eq26 c = λ said. record { number = 3; above = omega arith; below = omega arith; sort = Sort.Quad; tag_is = c.if-tag-eq26.true; sort_is = refl; said = c.quad.ensures said }
