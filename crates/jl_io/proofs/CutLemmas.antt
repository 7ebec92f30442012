-- Bytes that are cut into parts.
use Rattle.std.proofs.Common.{◌≡◌, ℕ, zero, suc, ◌-◌, ◌<◌, ◌≤◌, true, nat_le, List, [], ◌∷◌, ◌++◌, length, get_or, take, drop, Some, refl, ◌∙◌, ap, arith, length-drop}
use Rattle.std.proofs.lemmas.List.{take-append-le, drop-append-le, take_rest}
use Rattle.std.proofs.lemmas.Bool.{leb-true, le-leb, and_parts, and_from}
use Rattle.std.specs.List.{slice_range, slice_get}
use Rattle.jl_base.specs.Sinks.{Held}
use Rattle.jl_io.specs.Cuts.{parts_from, last_end, are_ordered}

-- the first part, and those behind it
ordered_first : (start end : ℕ) (ends : List ℕ) → are_ordered start (end ∷ ends) ≡ true → (start ≤ end) × (are_ordered end ends ≡ true)
ordered_first start end ends ordered =
    let both = and_parts (nat_le start end) (are_ordered end ends) ordered in
    (leb-true start end both.0, both.1)

last_end-le : (start : ℕ) (ends : List ℕ) → are_ordered start ends ≡ true → start ≤ last_end start ends
last_end-le start [] ordered = omega arith
last_end-le start (end ∷ ends) ordered =
    let first = ordered_first start end ends ordered in
    omega (arith, first.0, last_end-le end ends first.1)

slice_range-append : (bytes more : List ℕ) (start end : ℕ) → start ≤ end → end ≤ length bytes → slice_range (bytes ++ more) start end ≡ slice_range bytes start end
slice_range-append bytes more start end before within =
    let inside : end - start ≤ length (drop start bytes) = simp length-drop (omega arith) in
    ap (take (end - start)) (drop-append-le start bytes more (omega arith)) ∙ take-append-le (end - start) (drop start bytes) more inside

-- bytes behind the last part change no part
pub parts_from-append : (start : ℕ) (ends bytes more : List ℕ) → are_ordered start ends ≡ true → last_end start ends ≤ length bytes → parts_from start ends (bytes ++ more) ≡ parts_from start ends bytes
parts_from-append start [] bytes more ordered within = refl
parts_from-append start (end ∷ ends) bytes more ordered within =
    let first = ordered_first start end ends ordered in
    let last = last_end-le end ends first.1 in
    ap (λ (part : List ℕ). part ∷ parts_from end ends (bytes ++ more)) (slice_range-append bytes more start end first.0 (omega arith))
    ∙ ap (λ (parts : List (List ℕ)). slice_range bytes start end ∷ parts) (parts_from-append end ends bytes more first.1 within)

-- one more part
pub parts_from-push : (start : ℕ) (ends bytes : List ℕ) (end : ℕ) → parts_from start (ends ++ end ∷ []) bytes ≡ parts_from start ends bytes ++ slice_range bytes (last_end start ends) end ∷ []
parts_from-push start [] bytes end = refl
parts_from-push start (next ∷ ends) bytes end = ap (λ (parts : List (List ℕ)). slice_range bytes start next ∷ parts) (parts_from-push next ends bytes end)

pub last_end-push : (start : ℕ) (ends : List ℕ) (end : ℕ) → last_end start (ends ++ end ∷ []) ≡ end
last_end-push start [] end = refl
last_end-push start (next ∷ ends) end = last_end-push next ends end

pub ordered_push : (start : ℕ) (ends : List ℕ) (end : ℕ) → are_ordered start ends ≡ true → last_end start ends ≤ end → are_ordered start (ends ++ end ∷ []) ≡ true
ordered_push start [] end ordered after = and_from (nat_le start end) true (le-leb start end after) refl
ordered_push start (next ∷ ends) end ordered after =
    let both = and_parts (nat_le start next) (are_ordered next ends) ordered in
    and_from (nat_le start next) (are_ordered next (ends ++ end ∷ [])) both.0 (ordered_push next ends end both.1 after)

pub length-parts_from : (start : ℕ) (ends bytes : List ℕ) → length (parts_from start ends bytes) ≡ length ends
length-parts_from start [] bytes = refl
length-parts_from start (end ∷ ends) bytes = ap suc (length-parts_from end ends bytes)

-- the part with i before it
pub get-parts_from : (start : ℕ) (ends bytes : List ℕ) (i : ℕ) → i < length ends → slice_get (parts_from start ends bytes) i ≡ Some (slice_range bytes (get_or (start ∷ ends) i 0) (get_or ends i 0))
get-parts_from start [] bytes i below = absurd (omega arith)
get-parts_from start (end ∷ ends) bytes zero below = refl
get-parts_from start (end ∷ ends) bytes (suc i) below = get-parts_from end ends bytes i (omega arith)

-- it ends no earlier than it begins, and no later than the last
pub part_bounds : (start : ℕ) (ends : List ℕ) (i : ℕ) → are_ordered start ends ≡ true → i < length ends → (get_or (start ∷ ends) i 0 ≤ get_or ends i 0) × (get_or ends i 0 ≤ last_end start ends)
part_bounds start [] i ordered below = absurd (omega arith)
part_bounds start (end ∷ ends) zero ordered below =
    let first = ordered_first start end ends ordered in
    (first.0, last_end-le end ends first.1)
part_bounds start (end ∷ ends) (suc i) ordered below =
    part_bounds end ends i (ordered_first start end ends ordered).1 (omega arith)

-- what is held is equal part by part
pub held_parts : (finished others : List (List ℕ)) (under_way other : List ℕ) → finished ≡ others → under_way ≡ other → ◌≡◌ {A = Held} (record { finished = finished; under_way = under_way }) (record { finished = others; under_way = other })
held_parts finished others under_way other same also = cc

-- the bytes behind the last part, as a part
pub slice_range-rest : (bytes : List ℕ) (start : ℕ) → slice_range bytes start (length bytes) ≡ drop start bytes
slice_range-rest bytes start = take_rest bytes start
