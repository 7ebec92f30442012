-- Places in a table's lists, from 0, and its slots, from 1.
use Rattle.std.proofs.Common.{◌≡◌, ℕ, zero, suc, ◌+◌, ◌<◌, ◌≤◌, Bool, true, false, cond, List, [], ◌∷◌, ◌++◌, length, map, find, slice_get, Option, Some, None, if◌then◌else◌, refl, ap, sym, ◌∙◌, arith}
use Rattle.std.specs.Prelude.{slice_set}
use Rattle.std.specs.Str.{bytes_eq}
use Rattle.std.proofs.lemmas.List.{map-append}
use Rattle.jl_encoding.specs.Sameness.{is_text}
use Rattle.jl_encoding.specs.Slots.{numbers_from}
use Rattle.jl_encode.specs.Desks.{place_from}

pub get_set_same : {X : Type 0} (xs : List X) (k : ℕ) (x : X) → k < length xs → slice_get (slice_set xs k x) k ≡ Some x
get_set_same [] k x below = absurd (omega (arith, below))
get_set_same (y ∷ ys) zero x below = refl
get_set_same (y ∷ ys) (suc k) x below = get_set_same ys k x (omega (arith, below))

pub get_set_other : {X : Type 0} (xs : List X) (k j : ℕ) (x : X) → (j ≡ k → ⊥) → slice_get (slice_set xs k x) j ≡ slice_get xs j
get_set_other [] k j x ne = refl
get_set_other (y ∷ ys) zero zero x ne = absurd (ne refl)
get_set_other (y ∷ ys) zero (suc j) x ne = refl
get_set_other (y ∷ ys) (suc k) zero x ne = refl
get_set_other (y ∷ ys) (suc k) (suc j) x ne = get_set_other ys k j x (λ e. ne (ap suc e))

pub get_push_same : {X : Type 0} (xs : List X) (k : ℕ) (x : X) → k ≡ length xs → slice_get (xs ++ x ∷ []) k ≡ Some x
get_push_same [] zero x e = refl
get_push_same [] (suc k) x e = absurd (omega (arith, e))
get_push_same (y ∷ ys) zero x e = absurd (omega (arith, e))
get_push_same (y ∷ ys) (suc k) x e = get_push_same ys k x (omega (arith, e))

pub get_push_other : {X : Type 0} (xs : List X) (j : ℕ) (x : X) → (j ≡ length xs → ⊥) → slice_get (xs ++ x ∷ []) j ≡ slice_get xs j
get_push_other [] zero x ne = absurd (ne refl)
get_push_other [] (suc j) x ne = refl
get_push_other (y ∷ ys) zero x ne = refl
get_push_other (y ∷ ys) (suc j) x ne = get_push_other ys j x (λ e. ne (ap suc e))

pub length_slice_set : {X : Type 0} (xs : List X) (k : ℕ) (x : X) → length (slice_set xs k x) ≡ length xs
length_slice_set [] k x = refl
length_slice_set (y ∷ ys) zero x = refl
length_slice_set (y ∷ ys) (suc k) x = ap suc (length_slice_set ys k x)

-- the slot of a place
abbrev pub shifted : Option ℕ → Option ℕ
shifted None = None
shifted (Some k) = Some (k + 1)

-- the numbers that pass one test, and those of the places that pass the other
shift_find : (p q : ℕ → Bool) (xs : List ℕ) → ((k : ℕ) → q (k + 1) ≡ p k) → find q (map (λ k. k + 1) xs) ≡ shifted (find p xs)
shift_find p q [] same = refl
shift_find p q (x ∷ xs) same = let here = same x in rw here (by_test (p x) (shift_find p q xs same))
  where
    by_test : (b : Bool) → find q (map (λ k. k + 1) xs) ≡ shifted (find p xs) → cond b (Some (x + 1)) (find q (map (λ k. k + 1) xs)) ≡ shifted (cond b (Some x) (find p xs))
    by_test true rest = refl
    by_test false rest = rest

shift_numbers : (low count : ℕ) → map (λ k. k + 1) (numbers_from low count) ≡ numbers_from (low + 1) count
shift_numbers low zero = refl
shift_numbers low (suc count) = ap (λ (ns : List ℕ). (low + 1) ∷ ns) (shift_numbers (low + 1) count)

-- the first number that passes, in turn
pub turn_shifted : (p q : ℕ → Bool) (last count size : ℕ) → ((k : ℕ) → q (k + 1) ≡ p k) → find q (numbers_from (last + 1) count ++ numbers_from 1 size) ≡ shifted (find p (numbers_from last count ++ numbers_from 0 size))
turn_shifted p q last count size same =
    let each : map (λ k. k + 1) (numbers_from last count ++ numbers_from 0 size) ≡ numbers_from (last + 1) count ++ numbers_from 1 size =
    map-append (λ (k : ℕ). k + 1) (numbers_from last count) (numbers_from 0 size) ∙ ap (λ (ns : List ℕ). ns ++ map (λ k. k + 1) (numbers_from 0 size)) (shift_numbers last count)
    ∙ ap (λ (ns : List ℕ). numbers_from (last + 1) count ++ ns) (shift_numbers 0 size) in
    ap (find q) (sym each) ∙ shift_find p q (numbers_from last count ++ numbers_from 0 size) same

none_from : (f : ℕ → Option (List ℕ)) (x : List ℕ) (n count : ℕ) → ((m k : ℕ) → m ≡ n + k + 1 → f m ≡ None) → find (λ m. is_text x (f m)) (numbers_from (n + 1) count) ≡ None
none_from f x n zero all = refl
none_from f x n (suc count) all =
    let here = all (n + 1) 0 (omega arith) in
    rw here (none_from f x (n + 1) count (λ m k e. all m (suc k) (omega (arith, e))))

-- The slot that holds a text is that of the place where it stands.
pub place_shifted : (f : ℕ → Option (List ℕ)) (x : List ℕ) (ys : List (List ℕ)) (n count : ℕ) → ((m k : ℕ) → m ≡ n + k + 1 → f m ≡ slice_get ys k) → length ys ≤ count
    → find (λ m. is_text x (f m)) (numbers_from (n + 1) count) ≡ shifted (place_from n x ys)
place_shifted f x [] n count has fits = none_from f x n count has
place_shifted f x (y ∷ ys) n zero has fits = absurd (omega (arith, fits))
place_shifted f x (y ∷ ys) n (suc count) has fits =
    let here = has (n + 1) 0 (omega arith) in
    rw here (by_test (bytes_eq x y) (place_shifted f x ys (n + 1) count (λ m k e. has m (suc k) (omega (arith, e))) (omega (arith, fits))))
  where
    by_test : (b : Bool) → find (λ m. is_text x (f m)) (numbers_from (n + 1 + 1) count) ≡ shifted (place_from (n + 1) x ys)
        → cond b (Some (n + 1)) (find (λ m. is_text x (f m)) (numbers_from (n + 1 + 1) count)) ≡ shifted (if b then Some n else place_from (n + 1) x ys)
    by_test true rest = refl
    by_test false rest = rest

pub place_within : (x : List ℕ) (ys : List (List ℕ)) (n k : ℕ) → place_from n x ys ≡ Some k → k < n + length ys
place_within x [] n k e = absurd (cc)
place_within x (y ∷ ys) n k e = by_test (bytes_eq x y) e (λ h. place_within x ys (n + 1) k h)
  where
    by_test : (b : Bool) → (if b then Some n else place_from (n + 1) x ys) ≡ Some k → (place_from (n + 1) x ys ≡ Some k → k < n + 1 + length ys) → k < n + suc (length ys)
    by_test true h rest = let same : n ≡ k = cc in omega (arith, same)
    by_test false h rest = let below = rest h in omega (arith, below)
