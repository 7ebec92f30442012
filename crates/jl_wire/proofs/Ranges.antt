-- Parts of a range of a list.
use Rattle.std.proofs.Common.{◌≡◌, ℕ, suc, ◌+◌, ◌-◌, ◌<◌, ◌≤◌, List, ◌∷◌, length, get_or, take, drop, slice_range, refl, arith, length-drop}
use Rattle.std.proofs.lemmas.List.{drop_more, drop-drop, drop-take, take-take, length-take-le}

pub length-range : {X : Type 0} (xs : List X) (start end : ℕ) → start ≤ end → end ≤ length xs → length (slice_range xs start end) ≡ end - start
length-range xs start end le inside =
    length-take-le (end - start) (drop start xs) (omega (arith, length-drop start xs))

-- the element in front
pub range-cons : {X : Type 0} (xs : List X) (start end : ℕ) (d : X) → start < end → end ≤ length xs → slice_range xs start end ≡ get_or xs start d ∷ slice_range xs (start + 1) end
range-cons xs start end d lt inside =
    let count : end - start ≡ suc (end - (start + 1)) = omega arith in
    rw (count, drop_more xs start d (omega arith)) refl

-- what is left behind a place in the range
pub drop-range : {X : Type 0} (xs : List X) (start at end : ℕ) → start ≤ at → at ≤ end → drop (at - start) (slice_range xs start end) ≡ slice_range xs at end
drop-range xs start at end le inside =
    let count : end - start ≡ (at - start) + (end - at) = omega arith in
    let place : start + (at - start) ≡ at = omega arith in
    rw (count, drop-take (at - start) (end - at) (drop start xs), drop-drop (at - start) start xs, place) refl

-- what stands before a place in the range
pub take-range : {X : Type 0} (xs : List X) (start end count : ℕ) → start + count ≤ end → take count (slice_range xs start end) ≡ slice_range xs start (start + count)
take-range xs start end count inside =
    let same : start + count - start ≡ count = omega arith in
    rw same (take-take count (end - start) (drop start xs) (omega arith))
