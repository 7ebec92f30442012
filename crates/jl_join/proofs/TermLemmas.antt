-- What a triple term stands for.
use Rattle.std.specs.Prelude.{◌≡◌}
use Rattle.jl_base.specs.Terms.{Nested}
use Rattle.jl_base.specs.Items.{value_of}
use Rattle.jl_base.specs.declared.term.Three.{Three}
use Rattle.jl_base.specs.declared.term.Term.TheVariants.{Triple}
use Rattle.jl_base.proofs.ItemLemmas.{value_of-triple}

pub nested_value : (three : Three) → value_of (Triple three) ≡ Nested (value_of three.s) (value_of three.p) (value_of three.o)
nested_value three = value_of-triple three
