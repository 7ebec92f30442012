-- What a row states of a triple term.
use Rattle.std.proofs.Common.{◌≡◌, ◌∙◌, ℕ, List, refl, sym, ap, subst}
use Rattle.jl_base.specs.Items.{value_of}
use Rattle.jl_base.specs.Terms.{Value, Nested}
use Rattle.jl_base.specs.declared.term.Term.{Term}
use Rattle.jl_base.specs.declared.term.Term.TheVariants.{Triple as Triple_term}
use Rattle.jl_base.specs.declared.term.Three.{Three}
use Rattle.jl_base.proofs.ItemLemmas.{value_of-triple}
use Rattle.jl_rows.specs.Written as written
use Rattle.jl_encode.specs.Desks.{Desk}
use Rattle.jl_encode.specs.Putting.{put_term, Did}
use Rattle.jl_encode.specs.declared.stated.StatedThree.{StatedThree}
use Rattle.jl_encode.specs.declared.stated.Stated.TheVariants.{Triple}
use Rattle.jl_encode.specs.Stated.{stated, nested_stated}

pub stated_triple : (s p o : Value) (three : StatedThree) → stated (Nested s p o) (Triple three) ≡ nested_stated s p o three
unfolding Rattle.jl_encode.specs.declared.stated.Stated.TheBlock.hidden-the_row-StatedThree-0 denote.Hole.Carrier.hidden
stated_triple s p o three = refl

-- A step of a triple term, by its three.
pub did_triple : (term : Term) (held three : Three) (x y : StatedThree) (D E : Desk) (out new : List ℕ) → term ≡ Triple_term held → three ≡ held → y ≡ x
    → Did (put_term (Nested (value_of three.s) (value_of three.p) (value_of three.o)) D) out (nested_stated (value_of three.s) (value_of three.p) (value_of three.o) x) new E
    → Did (put_term (value_of term) D) out (stated (value_of term) (Triple y)) new E
did_triple term held three x y D E out new is same kept did =
    let value : value_of term ≡ Nested (value_of three.s) (value_of three.p) (value_of three.o) = ap value_of is ∙ value_of-triple held ∙ sym (ap (λ (t : Three). Nested (value_of t.s) (value_of t.p) (value_of t.o)) same) in
    let says : stated (Nested (value_of three.s) (value_of three.p) (value_of three.o)) (Triple y) ≡ nested_stated (value_of three.s) (value_of three.p) (value_of three.o) x =
    ap (λ (z : StatedThree). stated (Nested (value_of three.s) (value_of three.p) (value_of three.o)) (Triple z)) kept ∙ stated_triple (value_of three.s) (value_of three.p) (value_of three.o) x in
    subst (λ (v : Value). Did (put_term v D) out (stated v (Triple y)) new E) (sym value)
    (subst (λ (t : written.Term). Did (put_term (Nested (value_of three.s) (value_of three.p) (value_of three.o)) D) out t new E) (sym says) did)

pub value_held : (term : Term) (held three : Three) → term ≡ Triple_term held → three ≡ held → value_of term ≡ Nested (value_of three.s) (value_of three.p) (value_of three.o)
value_held term held three is same = ap value_of is ∙ value_of-triple held ∙ sym (ap (λ (t : Three). Nested (value_of t.s) (value_of t.p) (value_of t.o)) same)
