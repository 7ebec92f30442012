use Rattle.std.proofs.Common.{◌≡◌, refl, arith}
use Rattle.jl_text.specs.Line.{xsd_string}
use Rattle.jl_state.proofs.Marks.{clean_if_xsd}
use Rattle.jl_state.proofs.extent.mark.Goals as goal

pub returns-then-is_xsd_string : goal.returns-then-is_xsd_string
returns-then-is_xsd_string c =
    let is : c.args.text.now ≡ xsd_string = c.is_xsd_string.ensures.0 c.if-is_xsd_string.true in
    (omega arith, (λ _. clean_if_xsd c.args.text.now is), ((λ _. is), (λ _. refl)))
