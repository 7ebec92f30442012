-- The texts of a lookup table in an indexed set: where one stands, and what takes its place.
use Rattle.std.proofs.Common.{◌≡◌, ℕ, ◌+◌, ◌-◌, ◌<◌, ◌≤◌, Bool, true, false, ◌||◌, List, [], ◌∷◌, ◌++◌, map, length, take, slice_get, slice_set, slice_index_or, position, nat_lt, if◌then◌else◌, Option, None, Some, IfSome, refl, sym, ap, ◌∙◌, arith, lt-ltb}
use Rattle.std.specs.List.{list_any, position_from, swap_remove}
use Rattle.std.specs.Str.{bytes_eq}
use Rattle.std.proofs.lemmas.Bool.{le-ltb}
use Rattle.std.proofs.lemmas.Iterator.Adapters.{position_from-zero}
use Rattle.std.proofs.lemmas.List.{get_or_push, length_push, length-map, length-set, map-set, map-append, set-append_left, take-append-le, take_all}
use Rattle.std.proofs.lemmas.Option.{slice_get-get_or}
use Rattle.jl_encode.specs.Desks.{place_from}

module _ {K : Type 0} (f : K → List ℕ) where
  place_among : (n : ℕ) (x : List ℕ) (ks : List K) → place_from n x (map f ks) ≡ position_from (λ k. bytes_eq x (f k)) n ks
  place_among n x [] = refl
  place_among n x (k ∷ ks) = ap (λ r. if bytes_eq x (f k) then Some n else r) (place_among (n + 1) x ks)

  -- the index that the set gives
  pub place_is : (x : List ℕ) (ks : List K) → position (λ k. bytes_eq x (f k)) ks ≡ place_from 0 x (map f ks)
  place_is x ks = position_from-zero (λ k. bytes_eq x (f k)) ks ∙ sym (place_among 0 x ks)

  pub absent : (n : ℕ) (x : List ℕ) (ks : List K) → place_from n x (map f ks) ≡ None → list_any (λ k. bytes_eq x (f k)) ks ≡ false
  absent n x [] none = refl
  absent n x (k ∷ ks) none = by_test (bytes_eq x (f k)) none (λ h. absent (n + 1) x ks h)
    where
      by_test : (b : Bool) → (if b then Some n else place_from (n + 1) x (map f ks)) ≡ None → (place_from (n + 1) x (map f ks) ≡ None → list_any (λ j. bytes_eq x (f j)) ks ≡ false) → (b || list_any (λ j. bytes_eq x (f j)) ks) ≡ false
      by_test true h rest = absurd (cc)
      by_test false h rest = rest h

-- The last one, just pushed, moves into the hole.
pub moved_in : {X : Type 0} (xs : List X) (y d : X) (k : ℕ) → k < length xs → swap_remove (xs ++ y ∷ []) k d ≡ slice_set xs k y
moved_in xs y d k within =
    let long : length (xs ++ y ∷ []) ≡ length xs + 1 = length_push xs y in
    let n : length (xs ++ y ∷ []) - 1 ≡ length xs = omega (arith, long) in
    let last : slice_index_or (xs ++ y ∷ []) (length xs) d ≡ y = get_or_push xs y d (length xs) refl in
    let set : slice_set (xs ++ y ∷ []) k y ≡ slice_set xs k y ++ y ∷ [] = set-append_left xs (y ∷ []) k y within in
    let same : length (slice_set xs k y) ≡ length xs = length-set xs k y in
    let front : take (length xs) (slice_set xs k y ++ y ∷ []) ≡ take (length xs) (slice_set xs k y) = take-append-le (length xs) (slice_set xs k y) (y ∷ []) (omega (arith, same)) in
    let all : take (length xs) (slice_set xs k y) ≡ slice_set xs k y = take_all (length xs) (slice_set xs k y) (omega (arith, same)) in
    rw (n, last, set) (front ∙ all)

module _ {K : Type 0} (f : K → List ℕ) where
  -- a text that isn't there goes last
  pub pushed : (ks js : List K) (v : K) (x : List ℕ) → f v ≡ x → place_from 0 x (map f ks) ≡ None → js ≡ (if list_any (λ k. bytes_eq (f v) (f k)) ks then ks else ks ++ v ∷ []) → js ≡ ks ++ v ∷ []
  pushed ks js v x is none put =
      let new : list_any (λ k. bytes_eq (f v) (f k)) ks ≡ false = rw is (absent f 0 x ks none) in
      put ∙ rw new refl

  -- what stands then, as `entered` says it
  abbrev Entered : List K → List K → List ℕ → ℕ → Type 0
  Entered ks hs x k = map f hs ≡ (if nat_lt k (length (map f ks)) then slice_set (map f ks) k x else map f ks ++ x ∷ [])

  pub entered_last : (ks js : List K) (v : K) (x : List ℕ) (k : ℕ) → f v ≡ x → js ≡ ks ++ v ∷ [] → length ks ≤ k → Entered ks js x k
  entered_last ks js v x k is put behind =
      let past : nat_lt k (length (map f ks)) ≡ false = le-ltb k (length (map f ks)) (omega (arith, behind, length-map ks f)) in
      rw past (ap (map f) put ∙ map-append f ks (v ∷ []) ∙ ap (λ y. map f ks ++ y ∷ []) is)

  swapped : (ks js hs : List K) (v : K) (x : List ℕ) (k : ℕ) (d : K) → f v ≡ x → js ≡ ks ++ v ∷ [] → k < length ks → hs ≡ swap_remove js k d → Entered ks hs x k
  swapped ks js hs v x k d is put within taken =
      let inside : nat_lt k (length (map f ks)) ≡ true = lt-ltb k (length (map f ks)) (omega (arith, within, length-map ks f)) in
      let moved : hs ≡ slice_set ks k v = taken ∙ ap (λ zs. swap_remove zs k d) put ∙ moved_in ks v d k within in
      rw inside (ap (map f) moved ∙ map-set f ks k v ∙ ap (slice_set (map f ks) k) is)

  pub entered_within : (ks js hs : List K) (v : K) (x : List ℕ) (k : ℕ) (out : Option K) → f v ≡ x → js ≡ ks ++ v ∷ [] → k < length ks → out ≡ slice_get js k → IfSome out (λ d. hs ≡ swap_remove js k d) → Entered ks hs x k
  entered_within ks js hs v x k None is put within found taken =
      let long : length js ≡ length ks + 1 = ap length put ∙ length_push ks v in
      let some = slice_get-get_or js k v (omega (arith, within, long)) in
      absurd (cc)
  entered_within ks js hs v x k (Some d) is put within found taken = swapped ks js hs v x k d is put within taken
