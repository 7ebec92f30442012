-- Triple terms by where their texts lie: what they mean, and what they keep.
use Rattle.std.proofs.Common.{◌≡◌, ℕ, List, Ok, refl, ap, sym, subst, arith}
use Rattle.jl_base.specs.Terms as terms
use Rattle.jl_rows.specs.Written as written
use Rattle.jl_rows.specs.Written.{Ids}
use Rattle.jl_rows.specs.Values.{Slots}
use Rattle.jl_state.specs.declared.known.Known.{Known}
use Rattle.jl_state.specs.declared.known.KnownThree.{KnownThree}
use Rattle.jl_state.specs.declared.known.Known.TheVariants.{Triple}
use Rattle.jl_state.specs.Steps.{Looked, looked}
use Rattle.jl_state.specs.KnownTerms.{known_value, HasKnown, AreParts}

pub value_of_nested : (bytes : List ℕ) (three : KnownThree) → known_value bytes (Triple three) ≡ terms.Nested (known_value bytes three.s) (known_value bytes three.p) (known_value bytes three.o)
unfolding Rattle.jl_state.specs.declared.known.Known.TheBlock.hidden-the_row-KnownThree-0 denote.Hole.Carrier.hidden
value_of_nested bytes three = refl

pub has_nested : (bytes : List ℕ) (three : KnownThree) → HasKnown bytes three.s → HasKnown bytes three.p → HasKnown bytes three.o → HasKnown bytes (Triple three)
unfolding Rattle.jl_state.specs.declared.known.Known.TheBlock.hidden-the_row-KnownThree-0 denote.Hole.Carrier.hidden
has_nested bytes three s p o = (s, p, o)

-- a triple term whose three are looked up one after another
pub looked_nested : (slots : Slots) (bytes : List ℕ) (last i j k : Ids) (x y z : written.Term) (three : KnownThree)
    → looked slots last x ≡ Ok (known_value bytes three.s, i) → looked slots i y ≡ Ok (known_value bytes three.p, j) → looked slots j z ≡ Ok (known_value bytes three.o, k)
    → looked slots last (written.Nested x y z) ≡ Ok (known_value bytes (Triple three), k)
looked_nested slots bytes last i j k x y z three p q r = rw (p, q, r) (ap (λ (v : terms.Value). let l : Looked = Ok (v, k) in l) (sym (value_of_nested bytes three)))

parts_at : (bytes : List ℕ) (three : KnownThree) → AreParts bytes (Triple three) three
unfolding Rattle.jl_state.specs.declared.known.Known.TheBlock.hidden-the_row-KnownThree-0 denote.Hole.Carrier.hidden
parts_at bytes three = record {
  s = record { less = omega arith; has = λ h. h.0 };
  p = record { less = omega arith; has = λ h. h.1 };
  o = record { less = omega arith; has = λ h. h.2 };
  value = refl;
}

pub parts_of : (bytes : List ℕ) (whole : Known) (held three : KnownThree) → whole ≡ Triple held → three ≡ held → AreParts bytes whole three
parts_of bytes whole held three e f = subst (λ (k : Known). AreParts bytes k three) (sym e) (subst (λ (t : KnownThree). AreParts bytes (Triple held) t) (sym f) (parts_at bytes held))
