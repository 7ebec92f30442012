-- A text that is found where it was guessed stands nowhere before.
use Rattle.std.proofs.Common.{◌≡◌, ◌∙◌, ◌+◌, ℕ, zero, suc, Bool, true, false, List, [], ◌∷◌, map, slice_get, Some, refl, sym, ap, subst, arith}
use Rattle.std.specs.List.{AllByRecursion, IsDistinct}
use Rattle.std.specs.Str.{bytes_eq}
use Rattle.std.proofs.lemmas.Slice.Eq.{bytes_eq-Decides}
use Rattle.jl_encode.specs.Desks.{place_from}

module _ {K : Type 0} (f : K → List ℕ) where
  later : (k : K) (ks : List K) (j : ℕ) (v : K) → AllByRecursion (λ y. bytes_eq (f k) (f y) ≡ false) ks → slice_get ks j ≡ Some v → bytes_eq (f k) (f v) ≡ false
  later k [] j v apart at = absurd (cc)
  later k (y ∷ ys) zero v apart at = let same : y ≡ v = cc in subst (λ (z : K). bytes_eq (f k) (f z) ≡ false) same apart.0
  later k (y ∷ ys) (suc j) v apart at = later k ys j v apart.1 at

  pub guessed : (n : ℕ) (x : List ℕ) (ks : List K) (j : ℕ) (v : K) → IsDistinct (λ a b. bytes_eq (f a) (f b)) ks → slice_get ks j ≡ Some v → f v ≡ x → place_from n x (map f ks) ≡ Some (n + j)
  unfolding IsDistinct
  guessed n x [] j v distinct at same = absurd (cc)
  guessed n x (k ∷ ks) zero v distinct at same =
      let head : k ≡ v = cc in
      let here : bytes_eq x (f k) ≡ true = (bytes_eq-Decides x (f k)).1 (sym same ∙ ap f (sym head)) in
      let none : n ≡ n + 0 = omega arith in
      rw here (ap Some none)
  guessed n x (k ∷ ks) (suc j) v distinct at same =
      let apart : bytes_eq (f k) (f v) ≡ false = later k ks j v distinct.0 at in
      let here : bytes_eq x (f k) ≡ false = by_test (bytes_eq x (f k)) refl apart in
      let rest : place_from (n + 1) x (map f ks) ≡ Some (n + 1 + j) = guessed (n + 1) x ks j v distinct.1 at same in
      let sum : n + 1 + j ≡ n + suc j = omega arith in
      rw here (rest ∙ ap Some sum)
    where
      by_test : (b : Bool) → bytes_eq x (f k) ≡ b → bytes_eq (f k) (f v) ≡ false → bytes_eq x (f k) ≡ false
      by_test true h apart =
          let alike : f k ≡ f v = sym ((bytes_eq-Decides x (f k)).0 h) ∙ sym same in
          let no : bytes_eq (f k) (f v) ≡ true = (bytes_eq-Decides (f k) (f v)).1 alike in
          absurd (cc)
      by_test false h apart = h
