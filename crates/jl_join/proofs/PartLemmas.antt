-- The parts of a list of items, put together, are the items, and each has the length that it is to have.
use Rattle.std.proofs.Common.{◌≡◌, ℕ, zero, suc, ◌-◌, ◌<◌, ◌≤◌, List, [], ◌∷◌, ◌++◌, take, drop, length, refl, ap, ◌∙◌, ◌⊎◌, arith, inl, inr, take-append-drop}
use Rattle.std.proofs.lemmas.List.{length-take}
use Rattle.std.specs.List.{flat_map}
use Rattle.jl_base.specs.Terms.{Item}
use Rattle.jl_join.specs.Merging.{parts_after, parts, AreCut}

together_after : (skip n : ℕ) (items : List Item) → 0 < n → flat_map (λ (part : List Item). part) (parts_after skip n items) ≡ drop skip items
unfolding parts_after
together_after zero n [] some = refl
together_after (suc skip) n [] some = refl
together_after zero zero (item ∷ items) some = absurd (omega (arith, some))
together_after zero (suc n) (item ∷ items) some =
    let less : suc n - 1 ≡ n = omega arith in
    ap (λ (xs : List Item). item ∷ (take n items ++ xs)) (together_after (suc n - 1) (suc n) items some ∙ ap (λ (k : ℕ). drop k items) less)
    ∙ ap (λ (xs : List Item). item ∷ xs) (take-append-drop n items)
together_after (suc skip) n (item ∷ items) some = together_after skip n items some

pub together : (n : ℕ) (items : List Item) → 0 < n → flat_map (λ (part : List Item). part) (parts items n) ≡ items
together n items some = together_after 0 n items some

-- where there is a part, the items go on past those to skip
begins : (skip n : ℕ) (items : List Item) → (parts_after skip n items ≡ []) ⊎ (skip < length items)
unfolding parts_after
begins zero n [] = inl refl
begins (suc skip) n [] = inl refl
begins zero n (item ∷ items) = inr (omega arith)
begins (suc skip) n (item ∷ items) = elim (begins skip n items) [ inl none ↦ inl none | inr longer ↦ inr (omega (arith, longer)) ]

front : (n : ℕ) (part : List Item) (more : List (List Item)) → 0 < length part → length part ≤ n → (more ≡ []) ⊎ (length part ≡ n) → AreCut n more → AreCut n (part ∷ more)
front n part [] some most full rest = (some, most)
front n part (next ∷ more) some most full rest = (elim full [ inl none ↦ absurd (let never : next ∷ more ≡ [] = none in (cc)) | inr is ↦ is ], rest)

cut_after : (skip n : ℕ) (items : List Item) → 0 < n → AreCut n (parts_after skip n items)
unfolding parts_after
cut_after zero n [] some = tt
cut_after (suc skip) n [] some = tt
cut_after zero n (item ∷ items) some =
    let long = length-take n (item ∷ items) in
    front n (take n (item ∷ items)) (parts_after (n - 1) n items) (omega (arith, some, long)) (omega (arith, long))
    (elim (begins (n - 1) n items) [ inl none ↦ inl none | inr longer ↦ inr (omega (arith, some, longer, long)) ])
    (cut_after (n - 1) n items some)
cut_after (suc skip) n (item ∷ items) some = cut_after skip n items some

pub are_cut : (n : ℕ) (items : List Item) → 0 < n → AreCut n (parts items n)
are_cut n items some = cut_after 0 n items some
