-- Sums over lists that change in one place.
use Rattle.std.proofs.Common.{◌≡◌, ℕ, zero, suc, ◌+◌, ◌<◌, ◌≤◌, List, [], ◌∷◌, length, get_or, set, All, sum_by, subst, ap, sym, refl, arith}
use Rattle.std.proofs.lemmas.List.Sums.{sum_by-cons}
use Rattle.std.proofs.lemmas.List.Elements.{All-head, All-tail, All-get_or}
use mathlib.Core.Option.{some, some-injective, some-ne-none}
use lib.ListN.{get_elem?}

module _ {X : Type 0} where
  pub within : (xs : List X) (i : ℕ) (x : X) → get_elem? xs i ≡ some x → i < length xs
  within [] i x at = absurd (some-ne-none x (sym at))
  within (y ∷ ys) zero x at = omega arith
  within (y ∷ ys) (suc i) x at = let h = within ys i x at in omega arith

  get_or_at : (xs : List X) (i : ℕ) (x d : X) → get_elem? xs i ≡ some x → get_or xs i d ≡ x
  get_or_at [] i x d at = absurd (some-ne-none x (sym at))
  get_or_at (y ∷ ys) zero x d at = some-injective y x at
  get_or_at (y ∷ ys) (suc i) x d at = get_or_at ys i x d at

  pub all_at : (P : X → Type 0) (xs : List X) (i : ℕ) (x : X) → All P xs → get_elem? xs i ≡ some x → P x
  all_at P xs i x all at = subst P (get_or_at xs i x x at) (All-get_or P xs i x (within xs i x at) all)

  pub sum_by_set : (f : X → ℕ) (xs : List X) (i : ℕ) (x y : X) → get_elem? xs i ≡ some x → sum_by f (set xs i y) + f x ≡ sum_by f xs + f y
  sum_by_set f [] i x y at = absurd (some-ne-none x (sym at))
  sum_by_set f (z ∷ zs) zero x y at = let same = ap f (some-injective z x at) in omega (arith, sum_by-cons f y zs, sum_by-cons f z zs)
  sum_by_set f (z ∷ zs) (suc i) x y at = let rest = sum_by_set f zs i x y at in omega (arith, sum_by-cons f z (set zs i y), sum_by-cons f z zs)

  pub le_sum_by : (f : X → ℕ) (xs : List X) (i : ℕ) (x : X) → get_elem? xs i ≡ some x → f x ≤ sum_by f xs
  le_sum_by f [] i x at = absurd (some-ne-none x (sym at))
  le_sum_by f (z ∷ zs) zero x at = let same = ap f (some-injective z x at) in omega (arith, sum_by-cons f z zs)
  le_sum_by f (z ∷ zs) (suc i) x at = let rest = le_sum_by f zs i x at in omega (arith, sum_by-cons f z zs)

  pub sum_by_same : (f g : X → ℕ) (xs : List X) → ((x : X) → f x ≡ g x) → sum_by f xs ≡ sum_by g xs
  sum_by_same f g [] same = refl
  sum_by_same f g (x ∷ xs) same = let rest = sum_by_same f g xs same in let here = same x in omega (arith, sum_by-cons f x xs, sum_by-cons g x xs)

  pub sum_by_two : (f g : X → ℕ) (xs : List X) → sum_by (λ x. f x + g x) xs ≡ sum_by f xs + sum_by g xs
  sum_by_two f g [] = refl
  sum_by_two f g (x ∷ xs) = let rest = sum_by_two f g xs in omega (arith, sum_by-cons f x xs, sum_by-cons g x xs, sum_by-cons (λ x. f x + g x) x xs)

  pub sum_by_le : (f g : X → ℕ) (xs : List X) → All (λ x. f x ≤ g x) xs → sum_by f xs ≤ sum_by g xs
  sum_by_le f g [] le = omega arith
  sum_by_le f g (x ∷ xs) le =
      let rest = sum_by_le f g xs (All-tail (λ x. f x ≤ g x) x xs le) in
      let here : f x ≤ g x = All-head (λ x. f x ≤ g x) x xs le in
      omega (arith, sum_by-cons f x xs, sum_by-cons g x xs)

  sum_by_none : (f weight : X → ℕ) (xs : List X) → All (λ x. weight x ≡ 0 → f x ≡ 0) xs → sum_by weight xs ≡ 0 → sum_by f xs ≡ 0
  sum_by_none f weight [] light none = refl
  sum_by_none f weight (x ∷ xs) light none =
      let here = All-head (λ x. weight x ≡ 0 → f x ≡ 0) x xs light (omega (arith, sum_by-cons weight x xs)) in
      let rest = sum_by_none f weight xs (All-tail (λ x. weight x ≡ 0 → f x ≡ 0) x xs light) (omega (arith, sum_by-cons weight x xs)) in
      omega (arith, sum_by-cons f x xs)

  -- where one element has all the weight, it has the whole sum too
  pub sum_by_alone : (f weight : X → ℕ) (xs : List X) (i : ℕ) (x : X) → All (λ x. weight x ≡ 0 → f x ≡ 0) xs → get_elem? xs i ≡ some x → sum_by weight xs ≡ weight x → sum_by f xs ≡ f x
  sum_by_alone f weight [] i x light at alone = absurd (some-ne-none x (sym at))
  sum_by_alone f weight (y ∷ ys) zero x light at alone =
      let same = some-injective y x at in
      let heavy : weight y ≡ weight x = ap weight same in
      let none = sum_by_none f weight ys (All-tail (λ x. weight x ≡ 0 → f x ≡ 0) y ys light) (omega (arith, sum_by-cons weight y ys)) in
      omega (arith, sum_by-cons f y ys, ap f same)
  sum_by_alone f weight (y ∷ ys) (suc i) x light at alone =
      let more = le_sum_by weight ys i x at in
      let none = All-head (λ x. weight x ≡ 0 → f x ≡ 0) y ys light (omega (arith, sum_by-cons weight y ys)) in
      let rest = sum_by_alone f weight ys i x (All-tail (λ x. weight x ≡ 0 → f x ≡ 0) y ys light) at (omega (arith, sum_by-cons weight y ys)) in
      omega (arith, sum_by-cons f y ys)
