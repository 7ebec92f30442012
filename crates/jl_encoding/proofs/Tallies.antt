-- Counting the slots that are used, and finding one.
use Rattle.std.proofs.Common.{◌≡◌, ℕ, zero, suc, ◌+◌, ◌<◌, ◌≤◌, Bool, true, false, not, cond, List, [], ◌∷◌, ◌++◌, length, find, Some, None, if◌then◌else◌, refl, ap, sym, subst, inl, inr, arith}
use Rattle.std.proofs.lemmas.Bool.{cases_eq}
use Rattle.jl_encoding.specs.Slots.{numbers_from}

-- how many pass
abbrev pub tally : (ℕ → Bool) → List ℕ → ℕ
tally p [] = 0
tally p (x ∷ xs) = if p x then tally p xs + 1 else tally p xs

pub tally_same : (p q : ℕ → Bool) (xs : List ℕ) → ((m : ℕ) → q m ≡ p m) → tally q xs ≡ tally p xs
tally_same p q [] same = refl
tally_same p q (x ∷ xs) same = let here = same x in let rest = tally_same p q xs same in rw (here, rest) refl

tally_apart : (p q : ℕ → Bool) (n low count : ℕ) → ((m : ℕ) → (m ≡ n → ⊥) → q m ≡ p m) → n < low → tally q (numbers_from low count) ≡ tally p (numbers_from low count)
tally_apart p q n low zero same below = refl
tally_apart p q n low (suc count) same below =
    let here = same low (λ e. omega (arith, e, below)) in
    let rest = tally_apart p q n (low + 1) count same (omega (arith, below)) in
    rw (here, rest) refl

-- where one more may pass
pub tally_one : (p q : ℕ → Bool) (n low count : ℕ) → ((m : ℕ) → (m ≡ n → ⊥) → q m ≡ p m) → tally q (numbers_from low count) ≤ tally p (numbers_from low count) + 1
tally_one p q n low zero same = omega arith
tally_one p q n low (suc count) same = elim (cases_eq low n) [
  | inl e ↦ let rest = tally_apart p q n (low + 1) count same (omega (arith, e)) in by_both (q low) (p low) rest
  | inr ne ↦ let here = same low ne in let rest = tally_one p q n (low + 1) count same in rw here (by_one (p low) rest)
]
  where
    by_both : (a b : Bool) → tally q (numbers_from (low + 1) count) ≡ tally p (numbers_from (low + 1) count)
        → (if a then tally q (numbers_from (low + 1) count) + 1 else tally q (numbers_from (low + 1) count)) ≤ (if b then tally p (numbers_from (low + 1) count) + 1 else tally p (numbers_from (low + 1) count)) + 1
    by_both true true rest = omega (arith, rest)
    by_both true false rest = omega (arith, rest)
    by_both false true rest = omega (arith, rest)
    by_both false false rest = omega (arith, rest)

    by_one : (a : Bool) → tally q (numbers_from (low + 1) count) ≤ tally p (numbers_from (low + 1) count) + 1
        → (if a then tally q (numbers_from (low + 1) count) + 1 else tally q (numbers_from (low + 1) count)) ≤ (if a then tally p (numbers_from (low + 1) count) + 1 else tally p (numbers_from (low + 1) count)) + 1
    by_one true rest = omega (arith, rest)
    by_one false rest = rest

pub tally_all : (p : ℕ → Bool) (xs : List ℕ) → find (λ n. not (p n)) xs ≡ None → tally p xs ≡ length xs
tally_all p [] none = refl
tally_all p (x ∷ xs) none = by_test (p x) none (λ h. tally_all p xs h)
  where
    by_test : (b : Bool) → cond (not b) (Some x) (find (λ n. not (p n)) xs) ≡ None → (find (λ n. not (p n)) xs ≡ None → tally p xs ≡ length xs) → (if b then tally p xs + 1 else tally p xs) ≡ suc (length xs)
    by_test true h rest = let same = rest h in omega (arith, same)
    by_test false h rest = absurd (cc)

pub length_numbers : (low count : ℕ) → length (numbers_from low count) ≡ count
length_numbers low zero = refl
length_numbers low (suc count) = ap suc (length_numbers (low + 1) count)

pub find_append_none : (p : ℕ → Bool) (xs ys : List ℕ) → find p (xs ++ ys) ≡ None → find p ys ≡ None
find_append_none p [] ys none = none
find_append_none p (x ∷ xs) ys none = by_test (p x) none (λ h. find_append_none p xs ys h)
  where
    by_test : (b : Bool) → cond b (Some x) (find p (xs ++ ys)) ≡ None → (find p (xs ++ ys) ≡ None → find p ys ≡ None) → find p ys ≡ None
    by_test true h rest = absurd (cc)
    by_test false h rest = rest h

-- the first that passes is still the first where fewer pass
pub find_same : (p q : ℕ → Bool) (xs : List ℕ) (k : ℕ) → ((m : ℕ) → q m ≡ true → p m ≡ true) → q k ≡ true → find p xs ≡ Some k → find q xs ≡ Some k
find_same p q [] k fewer passes found = absurd (cc)
find_same p q (x ∷ xs) k fewer passes found = by_tests (p x) (q x) refl refl found (λ h. find_same p q xs k fewer passes h)
  where
    by_tests : (a b : Bool) → p x ≡ a → q x ≡ b → cond a (Some x) (find p xs) ≡ Some k → (find p xs ≡ Some k → find q xs ≡ Some k) → cond b (Some x) (find q xs) ≡ Some k
    by_tests true true is_p is_q h rest = h
    by_tests true false is_p is_q h rest =
        let same : x ≡ k = cc in
        let here : q x ≡ true = subst (λ (y : ℕ). q y ≡ true) (sym same) passes in
        absurd (cc)
    by_tests false true is_p is_q h rest = let there = fewer x is_q in absurd (cc)
    by_tests false false is_p is_q h rest = rest h

-- where none passed and one does now, it is found
pub find_first : (p q : ℕ → Bool) (n low count : ℕ) → ((m : ℕ) → (m ≡ n → ⊥) → q m ≡ p m) → q n ≡ true → low ≤ n → n < low + count → find p (numbers_from low count) ≡ None → find q (numbers_from low count) ≡ Some n
find_first p q n low zero same passes above below none = absurd (omega (arith, above, below))
find_first p q n low (suc count) same passes above below none = elim (cases_eq low n) [
  | inl e ↦ let here : q low ≡ true = subst (λ (y : ℕ). q y ≡ true) (sym e) passes in rw here (ap Some e)
  | inr ne ↦ let here = same low ne in rw here (by_test (p low) none (λ h. find_first p q n (low + 1) count same passes (omega (arith, above, ne)) (omega (arith, below)) h))
]
  where
    by_test : (b : Bool) → cond b (Some low) (find p (numbers_from (low + 1) count)) ≡ None → (find p (numbers_from (low + 1) count) ≡ None → find q (numbers_from (low + 1) count) ≡ Some n) → cond b (Some low) (find q (numbers_from (low + 1) count)) ≡ Some n
    by_test true h rest = absurd (cc)
    by_test false h rest = rest h

-- where one more passes
pub tally_more : (p q : ℕ → Bool) (n low count : ℕ) → ((m : ℕ) → (m ≡ n → ⊥) → q m ≡ p m) → p n ≡ false → q n ≡ true → low ≤ n → n < low + count → tally q (numbers_from low count) ≡ tally p (numbers_from low count) + 1
tally_more p q n low zero same before now above below = absurd (omega (arith, above, below))
tally_more p q n low (suc count) same before now above below = elim (cases_eq low n) [
  | inl e ↦
      (let rest = tally_apart p q n (low + 1) count same (omega (arith, e)) in
      let old : p low ≡ false = subst (λ (y : ℕ). p y ≡ false) (sym e) before in
      let new : q low ≡ true = subst (λ (y : ℕ). q y ≡ true) (sym e) now in
      rw (old, new, rest) refl)
  | inr ne ↦ let here = same low ne in let rest = tally_more p q n (low + 1) count same before now (omega (arith, above, ne)) (omega (arith, below)) in rw here (by_one (p low) rest)
]
  where
    by_one : (a : Bool) → tally q (numbers_from (low + 1) count) ≡ tally p (numbers_from (low + 1) count) + 1
        → (if a then tally q (numbers_from (low + 1) count) + 1 else tally q (numbers_from (low + 1) count)) ≡ (if a then tally p (numbers_from (low + 1) count) + 1 else tally p (numbers_from (low + 1) count)) + 1
    by_one true rest = omega (arith, rest)
    by_one false rest = rest

pub tally_most : (p : ℕ → Bool) (low count : ℕ) → tally p (numbers_from low count) ≤ count
tally_most p low zero = omega arith
tally_most p low (suc count) = by_test (p low) (tally_most p (low + 1) count)
  where
    by_test : (b : Bool) → tally p (numbers_from (low + 1) count) ≤ count → (if b then tally p (numbers_from (low + 1) count) + 1 else tally p (numbers_from (low + 1) count)) ≤ suc count
    by_test true rest = omega (arith, rest)
    by_test false rest = omega (arith, rest)

-- where one doesn't pass, not all do
pub tally_fewer : (p : ℕ → Bool) (n low count : ℕ) → p n ≡ false → low ≤ n → n < low + count → tally p (numbers_from low count) < count
tally_fewer p n low zero free above below = absurd (omega (arith, above, below))
tally_fewer p n low (suc count) free above below = elim (cases_eq low n) [
  | inl e ↦
      (let here : p low ≡ false = subst (λ (y : ℕ). p y ≡ false) (sym e) free in
      let most = tally_most p (low + 1) count in
      rw here (omega (arith, most)))
  | inr ne ↦ by_test (p low) (tally_fewer p n (low + 1) count free (omega (arith, above, ne)) (omega (arith, below)))
]
  where
    by_test : (b : Bool) → tally p (numbers_from (low + 1) count) < count → (if b then tally p (numbers_from (low + 1) count) + 1 else tally p (numbers_from (low + 1) count)) < suc count
    by_test true rest = omega (arith, rest)
    by_test false rest = omega (arith, rest)
