-- What a triple term stands for.
use Rattle.std.proofs.Common.{◌≡◌, refl}
use Rattle.jl_base.specs.Terms.{Nested}
use Rattle.jl_base.specs.Items.{value_of}
use Rattle.jl_base.specs.declared.term.Three.{Three}
use Rattle.jl_base.specs.declared.term.Term.TheVariants.{Triple}

pub value_of-triple : (three : Three) → value_of (Triple three) ≡ Nested (value_of three.s) (value_of three.p) (value_of three.o)
unfolding Rattle.jl_base.specs.declared.term.Term.TheBlock.hidden-the_row-Three-0 denote.Hole.Carrier.hidden
value_of-triple three = refl
