-- Varints of one, two and three bytes, in front of whatever range they stand in.
use Rattle.std.proofs.Common.{◌≡◌, ℕ, suc, ◌+◌, ◌-◌, ◌*◌, ◌^◌, ◌<◌, ◌≤◌, List, ◌∷◌, length, get_or, slice_range, Ok, refl, ap, arith}
use Rattle.std.proofs.lemmas.Bool.{lt-ltb, le-ltb}
use Rattle.jl_base.specs.Results.{◌>>=◌}
use Rattle.jl_wire.proofs.Ranges.{range-cons}
use Rattle.jl_wire.proofs.VarintSteps.{one_byte, two_bytes}
use Rattle.jl_wire.specs.Varint.{varint_within, varint}
use Rattle.jl_rows.specs.Usual.{IsShort}

last_within : (room b : ℕ) (bytes : List ℕ) → b < 128 → varint_within (suc room) (b ∷ bytes) ≡ Ok (b, 1)
unfolding varint_within
last_within room b bytes lt = rw (lt-ltb b 128 lt) refl

more_within : (room b : ℕ) (bytes : List ℕ) → 128 ≤ b → varint_within (suc room) (b ∷ bytes) ≡ (varint_within room bytes >>= λ high. Ok (b - 128 + 128 * high.0, high.1 + 1))
unfolding varint_within
more_within room b bytes le = rw (le-ltb b 128 le) refl

-- three bytes in front of a range, of which the third is below 128
three_bytes : (bytes : List ℕ) (at end number size : ℕ) → at + 2 < end → end ≤ length bytes → 128 ≤ get_or bytes at 0 → get_or bytes at 0 < 256 → 128 ≤ get_or bytes (at + 1) 0 → get_or bytes (at + 1) 0 < 256 → get_or bytes (at + 2) 0 < 128
    → number ≡ get_or bytes at 0 - 128 + (get_or bytes (at + 1) 0 - 128) * 128 + get_or bytes (at + 2) 0 * 16384 → size ≡ 3 → varint (slice_range bytes at end) ≡ Ok (number, size)
unfolding varint
three_bytes bytes at end number size lt inside large byte large' byte' small is three =
    let low = get_or bytes at 0 in
    let middle = get_or bytes (at + 1) 0 in
    let high = get_or bytes (at + 2) 0 in
    let first : at < end = omega arith in
    let second : at + 1 < end = omega arith in
    let third : at + 1 + 1 < end = omega arith in
    let place : at + 1 + 1 ≡ at + 2 = omega arith in
    let same : low - 128 + 128 * (middle - 128 + 128 * high) ≡ number = omega arith in
    let fits : number < 2 ^ 64 = omega arith in
    let pair : ◌≡◌ {A = ℕ × ℕ} (low - 128 + 128 * (middle - 128 + 128 * high), 1 + 1 + 1) (number, size) = cc in
    let whole : varint_within 10 (slice_range bytes at end) ≡ Ok (number, size) =
    rw (range-cons bytes at end 0 first inside, more_within 9 low (slice_range bytes (at + 1) end) large, range-cons bytes (at + 1) end 0 second inside, more_within 8 middle (slice_range bytes (at + 1 + 1) end) large', range-cons bytes (at + 1 + 1) end 0 third inside, place, last_within 7 high (slice_range bytes (at + 2 + 1) end) small)
    (ap (λ (p : ℕ × ℕ). Ok p) pair) in
    rw (whole, lt-ltb number (2 ^ 64) fits) refl

module _ (bytes : List ℕ) (at n : ℕ) where
  pub short_of_one : get_or bytes at 0 < 128 → n ≡ get_or bytes at 0 → IsShort bytes at (n, at + 1)
  short_of_one small is = record {
    after = omega arith;
    before = omega arith;
    small = omega arith;
    exact = λ end fits inside. one_byte bytes at end n (at + 1 - at) (omega arith) inside small is (omega arith);
  }

  pub short_of_two : 128 ≤ get_or bytes at 0 → get_or bytes at 0 < 256 → get_or bytes (at + 1) 0 < 128 → n ≡ get_or bytes at 0 - 128 + get_or bytes (at + 1) 0 * 128 → IsShort bytes at (n, at + 2)
  short_of_two large byte small is = record {
    after = omega arith;
    before = omega arith;
    small = omega arith;
    exact = λ end fits inside. two_bytes bytes at end n (at + 2 - at) (omega arith) inside large byte small is (omega arith);
  }

  pub short_of_three : 128 ≤ get_or bytes at 0 → get_or bytes at 0 < 256 → 128 ≤ get_or bytes (at + 1) 0 → get_or bytes (at + 1) 0 < 256 → get_or bytes (at + 2) 0 < 128
      → n ≡ get_or bytes at 0 - 128 + (get_or bytes (at + 1) 0 - 128) * 128 + get_or bytes (at + 2) 0 * 16384 → IsShort bytes at (n, at + 3)
  short_of_three large byte large' byte' small is = record {
    after = omega arith;
    before = omega arith;
    small = omega arith;
    exact = λ end fits inside. three_bytes bytes at end n (at + 3 - at) (omega arith) inside large byte large' byte' small is (omega arith);
  }
