-- The same for blocks of 64 bytes.
use Rattle.std.proofs.Common.{◌≡◌, ℕ, ◌+◌, ◌-◌, ◌<◌, ◌≤◌, ◌^◌, ◌%◌, not, nat_lt, List, map, length, get_or, take, drop, slice_range, refl, sym, ◌∙◌, ap, arith, lit≤, length-drop}
use Rattle.std.proofs.lemmas.Simd.{mask_l-mod, first_set_mask_l}
use Rattle.std.proofs.lemmas.List.{length-map, length-take-le, get_or-take, get_or-drop}
use Rattle.std.proofs.lemmas.List.Sums.{prefix_len-le-length, prefix_len_passes}
use Rattle.std.proofs.lemmas.Bool.{not-true, ltb-false}
use Rattle.std.specs.List.{position_or_len}
use Rattle.jl_wire.proofs.Ranges.{length-range}
use lib.Lanes.{mask_l}
use Rattle.jl_wire.proofs.AsciiRuns.{high_bits, high_bits_are}

-- the 64 bytes at a place
many : (bytes : List ℕ) (at : ℕ) → slice_range bytes at (at + 64) ≡ take 64 (drop at bytes)
many bytes at = let count : at + 64 - at ≡ 64 = omega arith in rw count refl

many_long : (bytes : List ℕ) (at : ℕ) → at + 64 ≤ length bytes → length (take 64 (drop at bytes)) ≡ 64
many_long bytes at inside = length-take-le 64 (drop at bytes) (omega (arith, length-drop at bytes))

bits_are : (bytes : List ℕ) → length bytes ≡ 64 → high_bits 64 bytes % 2 ^ 64 ≡ mask_l (map (λ b. nat_lt 127 b) bytes)
bits_are bytes long =
    let same : high_bits 64 bytes ≡ mask_l (map (λ b. nat_lt 127 b) bytes) = ap (λ n. high_bits n bytes) (sym long) ∙ high_bits_are bytes in
    let few : length (map (λ b. nat_lt 127 b) bytes) ≤ 64 = omega (arith, length-map bytes (λ b. nat_lt 127 b), long) in
    ap (λ n. n % 2 ^ 64) same ∙ mask_l-mod (map (λ b. nat_lt 127 b) bytes) 64 few

-- no bit is set
pub block_low : (bytes : List ℕ) (at : ℕ) → at + 64 ≤ length bytes → high_bits 64 (take 64 (drop at bytes)) % 2 ^ 64 ≡ 0 → 64 ≡ position_or_len (λ b. nat_lt 127 b) (slice_range bytes at (at + 64))
block_low bytes at inside none =
    let long = many_long bytes at inside in
    let zero_mask : mask_l (map (λ b. nat_lt 127 b) (take 64 (drop at bytes))) ≡ 0 = sym (bits_are (take 64 (drop at bytes)) long) ∙ none in
    let found = first_set_mask_l (λ b. nat_lt 127 b) (take 64 (drop at bytes)) 64 long (lit≤ tt) in
    rw many (rw zero_mask at found)

-- a byte of the 64
byte_of : (bytes : List ℕ) (at k : ℕ) → k < 64 → get_or (slice_range bytes at (at + 64)) k 0 ≡ get_or bytes (at + k) 0
byte_of bytes at k lt = rw (many, get_or-take 64 (drop at bytes) k 0 lt, get_or-drop at bytes k 0) refl

-- the bytes of a run are below 128
pub low_in_block : (bytes : List ℕ) (at n : ℕ) → at + 64 ≤ length bytes → n ≤ position_or_len (λ b. nat_lt 127 b) (slice_range bytes at (at + 64)) → (k : ℕ) → at ≤ k → k < at + n → get_or bytes k 0 < 128
low_in_block bytes at n inside le k from below =
    let short : position_or_len (λ b. nat_lt 127 b) (slice_range bytes at (at + 64)) ≤ 64 = omega (arith, prefix_len-le-length (λ b. not (nat_lt 127 b)) (slice_range bytes at (at + 64)), length-range bytes at (at + 64) (omega arith) inside) in
    let place : at + (k - at) ≡ k = omega arith in
    let passes = prefix_len_passes (λ b. not (nat_lt 127 b)) (slice_range bytes at (at + 64)) (k - at) 0 (omega arith) in
    let low = ltb-false 127 _ (not-true _ passes) in
    omega (arith, rw (byte_of bytes at (k - at) (omega arith), place) at low)
