-- What a row states of a triple term, and how deep terms nest.
use Rattle.std.proofs.Common.{◌≡◌, [], refl}
use Rattle.jl_base.specs.Items.{value_of}
use Rattle.jl_base.specs.declared.term.Three.{Three}
use Rattle.jl_base.specs.declared.term.Term.TheVariants as terms
use Rattle.jl_base.specs.Terms.{Value}
use Rattle.jl_rows.specs.Written.{Term}
use Rattle.jl_encode.specs.declared.stated.StatedThree.{StatedThree}
use Rattle.jl_encode.specs.declared.stated.Stated.TheVariants as says
use Rattle.jl_encode.specs.declared.stated.Stated.{Stated, Unset, Texts, Iri, Typed, Triple', Row_of-StatedThree, end_of-StatedThree, more_of-StatedThree}
use Rattle.jl_encode.specs.Spelling.{graph_bytes}
use Rattle.jl_encode.specs.Stated.{stated}

pub stated_nested : (three : Three) (held : StatedThree) → stated (value_of (terms.Triple three)) (says.Triple held) ≡ Term.Nested (stated (value_of three.s) held.s) (stated (value_of three.p) held.p) (stated (value_of three.o) held.o)
unfolding Rattle.jl_base.specs.declared.term.Term.TheBlock.hidden-the_row-Three-0 Rattle.jl_encode.specs.declared.stated.Stated.TheBlock.hidden-the_row-StatedThree-0 denote.Hole.Carrier.hidden
stated_nested three held = refl

pub value_nested : (three : Three) → value_of (terms.Triple three) ≡ Value.Nested (value_of three.s) (value_of three.p) (value_of three.o)
unfolding Rattle.jl_base.specs.declared.term.Term.TheBlock.hidden-the_row-Three-0 denote.Hole.Carrier.hidden
value_nested three = refl

pub unstated : (s p o : Value) (x : Stated) → ((h : StatedThree) → x ≡ says.Triple h → ⊥) → stated (Value.Nested s p o) x ≡ Term.Unset
unfolding Rattle.jl_encode.specs.declared.stated.Stated.TheBlock.hidden-the_row-StatedThree-0 denote.Hole.Carrier.hidden
unstated s p o Unset differs = refl
unstated s p o Texts differs = refl
unstated s p o (Iri i) differs = refl
unstated s p o (Typed n) differs = refl
unstated s p o (Triple' shape (more_of-StatedThree a b c end_of-StatedThree)) differs = absurd (differs (record { s = a; p = b; o = c }) refl)

pub unstated_nested : (three : Three) (x : Stated) → ((h : StatedThree) → x ≡ says.Triple h → ⊥) → stated (value_of (terms.Triple three)) x ≡ Term.Unset
unstated_nested three x differs = rw (value_nested three) (unstated (value_of three.s) (value_of three.p) (value_of three.o) x differs)

-- no graph is a triple term
nested_graph : (s p o : Value) (x : Stated) → graph_bytes (stated (Value.Nested s p o) x) ≡ []
nested_graph s p o Unset = refl
nested_graph s p o Texts = refl
nested_graph s p o (Iri i) = refl
nested_graph s p o (Typed n) = refl
nested_graph s p o (Triple' shape (more_of-StatedThree a b c rest)) = refl

pub graph_nested : (three : Three) (x : Stated) → graph_bytes (stated (value_of (terms.Triple three)) x) ≡ []
graph_nested three x = rw (value_nested three) (nested_graph (value_of three.s) (value_of three.p) (value_of three.o) x)
