-- Where an IRI is split, from its end.
use Rattle.std.proofs.Common.{◌≡◌, ◌∙◌, ◌<◌, ◌≤◌, ℕ, ◌+◌, ◌-◌, true, false, List, [], ◌∷◌, ◌++◌, length, nat_eq, slice_index_or, take, sym, refl, arith, ap}
use Rattle.std.proofs.lemmas.Bool.{ne_eqb}
use Rattle.std.proofs.lemmas.List.{take_more, length-take-le}
use Rattle.jl_encoding.specs.Splits.{is_cut, prefix_len}

pub last_is_cut : (xs : List ℕ) (b : ℕ) → is_cut b ≡ true → prefix_len (xs ++ b ∷ []) ≡ length xs + 1
last_is_cut [] b cut = rw cut refl
last_is_cut (x ∷ xs) b cut =
    let rest = last_is_cut xs b cut in
    let some : nat_eq (length xs + 1) 0 ≡ false = ne_eqb (length xs + 1) 0 (λ e. omega (arith, e)) in
    let long : length xs + 1 + 1 ≡ length (x ∷ xs) + 1 = omega arith in
    rw (rest, some) long

pub last_is_none : (xs : List ℕ) (b : ℕ) → is_cut b ≡ false → prefix_len (xs ++ b ∷ []) ≡ prefix_len xs
last_is_none [] b none = rw none refl
last_is_none (x ∷ xs) b none = let rest = last_is_none xs b none in rw rest refl

before_last : (text : List ℕ) (len : ℕ) → 0 < len → len ≤ length text → take len text ≡ take (len - 1) text ++ slice_index_or text (len - 1) 0 ∷ []
before_last text len some within =
    let next : len ≡ len - 1 + 1 = omega (arith, some) in
    ap (λ n. take n text) next ∙ take_more text (len - 1) 0 (omega (arith, some, within))

-- the last byte of a front ends the prefix
pub found_at : (text : List ℕ) (len : ℕ) → 0 < len → len ≤ length text → is_cut (slice_index_or text (len - 1) 0) ≡ true → len ≡ prefix_len (take len text)
found_at text len some within cut =
    let short : length (take (len - 1) text) ≡ len - 1 = length-take-le (len - 1) text (omega (arith, within)) in
    let long : len ≡ length (take (len - 1) text) + 1 = omega (arith, short, some) in
    long ∙ sym (ap prefix_len (before_last text len some within) ∙ last_is_cut (take (len - 1) text) (slice_index_or text (len - 1) 0) cut)

-- or not
pub passed_at : (text : List ℕ) (len : ℕ) → 0 < len → len ≤ length text → is_cut (slice_index_or text (len - 1) 0) ≡ false → prefix_len (take len text) ≡ prefix_len (take (len - 1) text)
passed_at text len some within none = ap prefix_len (before_last text len some within) ∙ last_is_none (take (len - 1) text) (slice_index_or text (len - 1) 0) none
