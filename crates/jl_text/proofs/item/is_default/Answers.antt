use Rattle.std.proofs.Common.{◌≡◌, ap, sym, ◌∙◌}
use Rattle.jl_base.specs.Terms.{Value, Nested, Default}
use Rattle.jl_base.specs.Items.{value_of}
use Rattle.jl_text.proofs.StatementLemmas.{nested_value}
use Rattle.jl_text.proofs.item.is_default.Goals as goal

pub returns-in-Triple : goal.returns-in-Triple
returns-in-Triple c =
    let three = c.in-Triple.field-0 in
    let is_nested = ap value_of c.in-Triple.is ∙ nested_value three in
    (λ e. cc, λ e. let never : ◌≡◌ {A = Value} Default (Nested (value_of three.s) (value_of three.p) (value_of three.o)) = sym e ∙ is_nested in cc)
