-- Sixteen bytes are compared with 128 at once, and a bit for each says which are above 127.
use Rattle.std.proofs.Common.{◌≡◌, ℕ, ◌+◌, ◌-◌, ◌<◌, ◌≤◌, ◌^◌, ◌%◌, Bool, true, false, cond, not, eqb, leb, nat_lt, List, [], ◌∷◌, map, length, get_or, take, drop, replicate, slice_range, refl, sym, ◌∙◌, ap, arith, lit≤, length-drop}
use Rattle.std.proofs.lemmas.Simd.{mask_l-mod, first_set_mask_l}
use Rattle.std.proofs.lemmas.List.{length-map, length-take-le, get_or-take, get_or-drop}
use Rattle.std.proofs.lemmas.List.Sums.{prefix_len-le-length, prefix_len_passes, prefix_len_stops}
use Rattle.std.proofs.lemmas.Bool.{ne_eqb, not-true, not-false, ltb-true, ltb-false}
use Rattle.std.specs.List.{position_or_len}
use Rattle.jl_wire.proofs.Ranges.{length-range}
use lib.Lanes.{zip2, mask_l, top}
use lib.Count.{count_trailing_zeros}

-- a lane of the comparison
abbrev pub at_least : ℕ → ℕ → ℕ
at_least a b = cond (leb a b) 255 0

-- the bits of a comparison of so many bytes
abbrev pub high_bits : ℕ → List ℕ → ℕ
high_bits n bytes = mask_l (map (top 7) (zip2 at_least (replicate n 128) bytes))

lane_bit : (t : Bool) → top 7 (cond t 255 0) ≡ t
lane_bit true = refl
lane_bit false = refl

pub high_bits_are : (bytes : List ℕ) → high_bits (length bytes) bytes ≡ mask_l (map (λ b. nat_lt 127 b) bytes)
high_bits_are [] = refl
high_bits_are (b ∷ bytes) =
    let bit = lane_bit (leb 128 b) in
    rw (bit, high_bits_are bytes) refl

-- the sixteen bytes at a place
sixteen : (bytes : List ℕ) (at : ℕ) → slice_range bytes at (at + 16) ≡ take 16 (drop at bytes)
sixteen bytes at = let count : at + 16 - at ≡ 16 = omega arith in rw count refl

sixteen_long : (bytes : List ℕ) (at : ℕ) → at + 16 ≤ length bytes → length (take 16 (drop at bytes)) ≡ 16
sixteen_long bytes at inside = length-take-le 16 (drop at bytes) (omega (arith, length-drop at bytes))

bits_are : (bytes : List ℕ) → length bytes ≡ 16 → high_bits 16 bytes % 2 ^ 64 ≡ mask_l (map (λ b. nat_lt 127 b) bytes)
bits_are bytes long =
    let same : high_bits 16 bytes ≡ mask_l (map (λ b. nat_lt 127 b) bytes) = ap (λ n. high_bits n bytes) (sym long) ∙ high_bits_are bytes in
    let few : length (map (λ b. nat_lt 127 b) bytes) ≤ 64 = omega (arith, length-map bytes (λ b. nat_lt 127 b), long) in
    ap (λ n. n % 2 ^ 64) same ∙ mask_l-mod (map (λ b. nat_lt 127 b) bytes) 64 few

-- no bit is set
pub all_low : (bytes : List ℕ) (at : ℕ) → at + 16 ≤ length bytes → high_bits 16 (take 16 (drop at bytes)) % 2 ^ 64 ≡ 0 → 16 ≡ position_or_len (λ b. nat_lt 127 b) (slice_range bytes at (at + 16))
all_low bytes at inside none =
    let long = sixteen_long bytes at inside in
    let zero_mask : mask_l (map (λ b. nat_lt 127 b) (take 16 (drop at bytes))) ≡ 0 = sym (bits_are (take 16 (drop at bytes)) long) ∙ none in
    let found = first_set_mask_l (λ b. nat_lt 127 b) (take 16 (drop at bytes)) 16 long (lit≤ tt) in
    rw sixteen (rw zero_mask at found)

-- some bit is set
pub first_high : (bytes : List ℕ) (at : ℕ) → at + 16 ≤ length bytes → (high_bits 16 (take 16 (drop at bytes)) % 2 ^ 64 ≡ 0 → ⊥) → count_trailing_zeros 64 (high_bits 16 (take 16 (drop at bytes)) % 2 ^ 64) ≡ position_or_len (λ b. nat_lt 127 b) (slice_range bytes at (at + 16))
first_high bytes at inside some =
    let long = sixteen_long bytes at inside in
    let e = bits_are (take 16 (drop at bytes)) long in
    let other : eqb (mask_l (map (λ b. nat_lt 127 b) (take 16 (drop at bytes)))) 0 ≡ false = ne_eqb _ 0 (λ z. some (e ∙ z)) in
    let found = first_set_mask_l (λ b. nat_lt 127 b) (take 16 (drop at bytes)) 16 long (lit≤ tt) in
    rw (sixteen, e) (rw other at found)

-- a byte of the sixteen
byte_of : (bytes : List ℕ) (at k : ℕ) → k < 16 → get_or (slice_range bytes at (at + 16)) k 0 ≡ get_or bytes (at + k) 0
byte_of bytes at k lt = rw (sixteen, get_or-take 16 (drop at bytes) k 0 lt, get_or-drop at bytes k 0) refl

-- the bytes of a run are below 128
pub low_in_run : (bytes : List ℕ) (at n : ℕ) → at + 16 ≤ length bytes → n ≤ position_or_len (λ b. nat_lt 127 b) (slice_range bytes at (at + 16)) → (k : ℕ) → at ≤ k → k < at + n → get_or bytes k 0 < 128
low_in_run bytes at n inside le k from below =
    let short : position_or_len (λ b. nat_lt 127 b) (slice_range bytes at (at + 16)) ≤ 16 = omega (arith, prefix_len-le-length (λ b. not (nat_lt 127 b)) (slice_range bytes at (at + 16)), length-range bytes at (at + 16) (omega arith) inside) in
    let place : at + (k - at) ≡ k = omega arith in
    let passes = prefix_len_passes (λ b. not (nat_lt 127 b)) (slice_range bytes at (at + 16)) (k - at) 0 (omega arith) in
    let low = ltb-false 127 _ (not-true _ passes) in
    omega (arith, rw (byte_of bytes at (k - at) (omega arith), place) at low)

-- a run that ends before the sixteen do has a byte above 127 behind it
pub high_after_run : (bytes : List ℕ) (at : ℕ) → at + 16 ≤ length bytes → position_or_len (λ b. nat_lt 127 b) (slice_range bytes at (at + 16)) < 16 → ((k : ℕ) → k < length bytes → get_or bytes k 0 < 128) → ⊥
high_after_run bytes at inside short ascii =
    let n = position_or_len (λ b. nat_lt 127 b) (slice_range bytes at (at + 16)) in
    let ends : n < length (slice_range bytes at (at + 16)) = omega (arith, length-range bytes at (at + 16) (omega arith) inside) in
    let stops = prefix_len_stops (λ b. not (nat_lt 127 b)) (slice_range bytes at (at + 16)) 0 ends in
    let high = ltb-true 127 _ (not-false _ stops) in
    omega (arith, rw (byte_of bytes at n short) at high, ascii (at + n) (omega arith))

-- a run of all sixteen
pub run_at_most : (bytes : List ℕ) (at : ℕ) → at + 16 ≤ length bytes → position_or_len (λ b. nat_lt 127 b) (slice_range bytes at (at + 16)) ≤ 16
run_at_most bytes at inside = omega (arith, prefix_len-le-length (λ b. not (nat_lt 127 b)) (slice_range bytes at (at + 16)), length-range bytes at (at + 16) (omega arith) inside)
