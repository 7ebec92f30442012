-- A list whose elements are all of some of these sorts is at most as long as the numbers of each sort together.
use Rattle.std.proofs.Common.{◌≡◌, ℕ, zero, suc, ◌+◌, ◌*◌, ◌<◌, ◌≤◌, Bool, true, false, List, [], ◌∷◌, ◌++◌, length, refl, ap, sym, arith, subst, inl, inr}
use Rattle.std.proofs.lemmas.Bool.{cases_lt}

abbrev pub one : Bool → ℕ
one true = 1
one false = 0

-- one sort for each id of a table, the last one first
unfoldable pub each_id : {A : Type 0} → (ℕ → A) → ℕ → List A
each_id f zero = []
each_id f (suc n) = f (suc n) ∷ each_id f n

pub length-each_id : {A : Type 0} (f : ℕ → A) (n : ℕ) → length (each_id f n) ≡ n
unfolding each_id
length-each_id f zero = refl
length-each_id f (suc n) = let rest = length-each_id f n in omega (arith, rest)

module _ {A X : Type 0} (is_of : A → X → Bool) where
  -- how many elements are of a sort
  unfoldable pub many : A → List X → ℕ
  many a [] = 0
  many a (x ∷ xs) = one (is_of a x) + many a xs

  unfoldable pub total : List A → List X → ℕ
  total [] xs = 0
  total (a ∷ sorts) xs = many a xs + total sorts xs

  -- of how many sorts an element is
  unfoldable pub hits : List A → X → ℕ
  hits [] x = 0
  hits (a ∷ sorts) x = one (is_of a x) + hits sorts x

  unfoldable pub AllHit : List A → List X → Type 0
  AllHit sorts [] = Unit {0}
  AllHit sorts (x ∷ xs) = (1 ≤ hits sorts x) × AllHit sorts xs

  total_none : (sorts : List A) → total sorts [] ≡ 0
  unfolding total many
  total_none [] = refl
  total_none (a ∷ sorts) = let rest = total_none sorts in omega (arith, rest)

  total_more : (sorts : List A) (x : X) (xs : List X) → total sorts (x ∷ xs) ≡ hits sorts x + total sorts xs
  unfolding total hits many
  total_more [] x xs = refl
  total_more (a ∷ sorts) x xs = let rest = total_more sorts x xs in omega (arith, rest)

  pub length-le-total : (sorts : List A) (xs : List X) → AllHit sorts xs → length xs ≤ total sorts xs
  unfolding AllHit
  length-le-total sorts [] h = let none = total_none sorts in omega (arith, none)
  length-le-total sorts (x ∷ xs) h = let rest = length-le-total sorts xs h.1 in let more = total_more sorts x xs in let hit = h.0 in omega (arith, rest, more, hit)

  pub total-le : (sorts : List A) (xs : List X) (c : ℕ) → ((a : A) → many a xs ≤ c) → total sorts xs ≤ length sorts * c
  unfolding total
  total-le [] xs c h = omega arith
  total-le (a ∷ sorts) xs c h = let rest = total-le sorts xs c h in let first = h a in grind (arith, rest, first)

  pub hits_both : (sorts others : List A) (x : X) → hits (sorts ++ others) x ≡ hits sorts x + hits others x
  unfolding hits
  hits_both [] others x = omega arith
  hits_both (a ∷ sorts) others x = let rest = hits_both sorts others x in omega (arith, rest)

  pub hit_left : (sorts others : List A) (x : X) → 1 ≤ hits sorts x → 1 ≤ hits (sorts ++ others) x
  hit_left sorts others x h = let both = hits_both sorts others x in omega (arith, both, h)

  pub hit_right : (sorts others : List A) (x : X) → 1 ≤ hits others x → 1 ≤ hits (sorts ++ others) x
  hit_right sorts others x h = let both = hits_both sorts others x in omega (arith, both, h)

  pub hit_first : (a : A) (sorts : List A) (x : X) → is_of a x ≡ true → 1 ≤ hits (a ∷ sorts) x
  unfolding hits
  hit_first a sorts x h = let counted : one (is_of a x) ≡ 1 = ap one h in omega (arith, counted)

  pub hit_later : (a : A) (sorts : List A) (x : X) → 1 ≤ hits sorts x → 1 ≤ hits (a ∷ sorts) x
  unfolding hits
  hit_later a sorts x h = omega (arith, h)

  pub hit_id : (f : ℕ → A) (size n : ℕ) (x : X) → is_of (f n) x ≡ true → 0 < n → n ≤ size → 1 ≤ hits (each_id f size) x
  unfolding each_id
  hit_id f zero n x h above within = let none : ⊥ = omega (arith, above, within) in absurd none
  hit_id f (suc size) n x h above within = elim (cases_lt size n) [
    | inl last ↦ let same : suc size ≡ n = omega (arith, last, within) in hit_first (f (suc size)) (each_id f size) x (subst (λ (k : ℕ). is_of (f k) x ≡ true) (sym same) h)
    | inr before ↦ hit_later (f (suc size)) (each_id f size) x (hit_id f size n x h above before)
  ]
