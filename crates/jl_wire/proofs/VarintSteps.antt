-- A varint read byte by byte, from the front.
use Rattle.std.proofs.Common.{◌≡◌, ℕ, suc, ◌+◌, ◌-◌, ◌*◌, ◌^◌, ◌<◌, ◌≤◌, List, ◌∷◌, length, get_or, drop, slice_range, Result, Ok, Err, refl, sym, ◌∙◌, ap, subst, inl, inr, arith}
use Rattle.std.proofs.lemmas.List.{at_drop_more, at_drop_all}
use Rattle.std.proofs.Math.Nat.{mul-le-mul_right, pow-le-pow_right}
use Rattle.std.proofs.lemmas.Grind.{pow_more}
use Rattle.std.proofs.lemmas.Bool.{lt-ltb, le-ltb, cases_lt}
use Rattle.jl_base.specs.Results.{◌>>=◌}
use Rattle.jl_base.specs.declared.kind.Kind.{Kind}
use Rattle.jl_base.specs.declared.kind.Kind.TheVariants.{Truncated, BadVarint}
use Rattle.jl_wire.proofs.Ranges.{range-cons}
use Rattle.jl_wire.specs.Varint.{varint_within, varint}

-- a number read behind i bytes, whose bits stand for value and which the rest is to be scaled for
abbrev pub after : ℕ → ℕ → ℕ → Result (ℕ × ℕ) Kind → Result (ℕ × ℕ) Kind
after value scale i (Ok high) = Ok (value + scale * high.0, i + high.1)
after value scale i (Err k) = Err k

-- the first i bytes have the top bit set, and their low bits are value, below scale
pub record HasRead (bytes : List ℕ) (i value scale : ℕ) : Type 0 where
  pub small : value < scale
  pub power : scale ≡ 128 ^ i
  pub rest : varint_within 10 bytes ≡ after value scale i (varint_within (10 - i) (drop i bytes))

-- at the start nothing is read
same_after : (r : Result (ℕ × ℕ) Kind) → r ≡ after 0 1 0 r
same_after (Ok r) =
    let e : ◌≡◌ {A = ℕ × ℕ} r (0 + 1 * r.0, 0 + r.1) = grind arith in
    ap (λ (p : ℕ × ℕ). Ok p) e
same_after (Err k) = refl

pub nothing_read : (bytes : List ℕ) → HasRead bytes 0 0 1
nothing_read bytes = record { small = omega arith; power = refl; rest = same_after (varint_within 10 bytes) }

-- what is left of the bytes where they have ended, at a last byte, and at one with the top bit set
ended_within : (room i : ℕ) (bytes : List ℕ) → length bytes ≤ i → varint_within (suc room) (drop i bytes) ≡ Err Truncated
unfolding varint_within
ended_within room i bytes le = at_drop_all (varint_within (suc room)) bytes i le

last_within : (room b : ℕ) (bytes : List ℕ) → b < 128 → varint_within (suc room) (b ∷ bytes) ≡ Ok (b, 1)
unfolding varint_within
last_within room b bytes lt = rw (lt-ltb b 128 lt) refl

more_within : (room b : ℕ) (bytes : List ℕ) → 128 ≤ b → varint_within (suc room) (b ∷ bytes) ≡ (varint_within room bytes >>= λ high. Ok (b - 128 + 128 * high.0, high.1 + 1))
unfolding varint_within
more_within room b bytes le = rw (le-ltb b 128 le) refl

-- a byte more
after_more : (value scale i b : ℕ) (r : Result (ℕ × ℕ) Kind) → after value scale i (r >>= λ high. Ok (b - 128 + 128 * high.0, high.1 + 1)) ≡ after (value + (b - 128) * scale) (scale * 128) (i + 1) r
after_more value scale i b (Ok high) =
    let number : value + scale * (b - 128 + 128 * high.0) ≡ value + (b - 128) * scale + scale * 128 * high.0 = omega arith in
    let size : i + (high.1 + 1) ≡ i + 1 + high.1 = omega arith in
    let e : ◌≡◌ {A = ℕ × ℕ} (value + scale * (b - 128 + 128 * high.0), i + (high.1 + 1)) (value + (b - 128) * scale + scale * 128 * high.0, i + 1 + high.1) = cc in
    ap (λ (p : ℕ × ℕ). Ok p) e
after_more value scale i b (Err k) = refl

-- with room for one byte and more
room_left : (bytes : List ℕ) (i : ℕ) → i < 10 → varint_within (10 - i) bytes ≡ varint_within (suc (9 - i)) bytes
room_left bytes i lt = let e : 10 - i ≡ suc (9 - i) = omega arith in rw e refl

-- what the bytes from i on say
rest_last : (bytes : List ℕ) (i : ℕ) → i < 10 → i < length bytes → get_or bytes i 0 < 128 → varint_within (10 - i) (drop i bytes) ≡ Ok (get_or bytes i 0, 1)
rest_last bytes i lt inside small =
    room_left (drop i bytes) i lt ∙ at_drop_more (varint_within (suc (9 - i))) bytes i 0 inside ∙ last_within (9 - i) (get_or bytes i 0) (drop (i + 1) bytes) small

rest_more : (bytes : List ℕ) (i : ℕ) → i < 10 → i < length bytes → 128 ≤ get_or bytes i 0 → varint_within (10 - i) (drop i bytes) ≡ (varint_within (9 - i) (drop (i + 1) bytes) >>= λ high. Ok (get_or bytes i 0 - 128 + 128 * high.0, high.1 + 1))
rest_more bytes i lt inside large =
    room_left (drop i bytes) i lt ∙ at_drop_more (varint_within (suc (9 - i))) bytes i 0 inside ∙ more_within (9 - i) (get_or bytes i 0) (drop (i + 1) bytes) large

-- the bytes end before the varint does
pub ended_at : (bytes : List ℕ) (i value scale : ℕ) → i < 10 → length bytes ≤ i → HasRead bytes i value scale → varint bytes ≡ Err Truncated
unfolding varint
ended_at bytes i value scale lt le read =
    let e : varint_within 10 bytes ≡ Err Truncated = read.rest ∙ ap (after value scale i) (room_left (drop i bytes) i lt ∙ ended_within (9 - i) i bytes le) in
    rw e refl

-- the number that a last byte at i gives, below ten bytes' worth
last_read : (bytes : List ℕ) (i value scale : ℕ) → i < 10 → i < length bytes → get_or bytes i 0 < 128 → HasRead bytes i value scale → varint_within 10 bytes ≡ Ok (value + scale * get_or bytes i 0, i + 1)
last_read bytes i value scale lt inside small read = read.rest ∙ ap (after value scale i) (rest_last bytes i lt inside small)

pub last_at : (bytes : List ℕ) (i value scale number : ℕ) → i < 10 → i < length bytes → get_or bytes i 0 < 128 → HasRead bytes i value scale → number ≡ value + get_or bytes i 0 * scale → number < 2 ^ 64 → varint bytes ≡ Ok (number, i + 1)
unfolding varint
last_at bytes i value scale number lt inside small read is fits =
    let swapped : value + scale * get_or bytes i 0 ≡ number = omega arith in
    let e : varint_within 10 bytes ≡ Ok (number, i + 1) = subst (λ (n : ℕ). varint_within 10 bytes ≡ Ok (n, i + 1)) swapped (last_read bytes i value scale lt inside small read) in
    rw (e, lt-ltb number (2 ^ 64) fits) refl

-- below ten bytes the number fits
pub fits_at : {bytes : List ℕ} (i value scale b : ℕ) → i < 9 → b < 128 → HasRead bytes i value scale → value + b * scale < 2 ^ 64
fits_at i value scale b lt small read =
    let low : b ≤ 127 = omega arith in
    let positive : 0 < 128 = omega arith in
    let shorter : i ≤ 8 = omega arith in
    omega (arith, read.small, read.power, mul-le-mul_right scale low, pow-le-pow_right positive shorter)

-- a tenth byte above 1
too_large : (bytes : List ℕ) (value scale : ℕ) → 9 < length bytes → get_or bytes 9 0 < 128 → HasRead bytes 9 value scale → 2 ^ 64 ≤ value + scale * get_or bytes 9 0 → varint bytes ≡ Err BadVarint
unfolding varint
too_large bytes value scale inside small read large =
    rw (last_read bytes 9 value scale (omega arith) inside small read, le-ltb (value + scale * get_or bytes 9 0) (2 ^ 64) large) refl

too_long : (bytes : List ℕ) (value scale : ℕ) → 9 < length bytes → 128 ≤ get_or bytes 9 0 → HasRead bytes 9 value scale → varint bytes ≡ Err BadVarint
unfolding varint varint_within
too_long bytes value scale inside large read =
    let e : varint_within 10 bytes ≡ Err BadVarint = read.rest ∙ ap (after value scale 9) (rest_more bytes 9 (omega arith) inside large) in
    rw e refl

pub refused_at_tenth : (bytes : List ℕ) (i value scale : ℕ) → i ≡ 9 → 9 < length bytes → 1 < get_or bytes 9 0 → HasRead bytes i value scale → varint bytes ≡ Err BadVarint
refused_at_tenth bytes i value scale nine inside above before =
    let read : HasRead bytes 9 value scale = subst (λ (n : ℕ). HasRead bytes n value scale) nine before in
    elim (cases_lt (get_or bytes 9 0) 128) [
      | inl small ↦
          (let two : 2 ≤ get_or bytes 9 0 = omega arith in
          let whole : scale ≡ 2 ^ 63 = read.power in
          too_large bytes value scale inside small read (omega (arith, whole, mul-le-mul_right scale two)))
      | inr large ↦ too_long bytes value scale inside large read
    ]

pub read_at_tenth : (bytes : List ℕ) (i value scale number : ℕ) → i ≡ 9 → 9 < length bytes → get_or bytes 9 0 ≤ 1 → HasRead bytes i value scale → number ≡ value + get_or bytes 9 0 * scale → varint bytes ≡ Ok (number, 10)
read_at_tenth bytes i value scale number nine inside low before is =
    let read : HasRead bytes 9 value scale = subst (λ (n : ℕ). HasRead bytes n value scale) nine before in
    let whole : scale ≡ 2 ^ 63 = read.power in
    let small : get_or bytes 9 0 < 128 = omega arith in
    last_at bytes 9 value scale number (omega arith) inside small read is (omega (arith, whole, is, read.small, mul-le-mul_right scale low))

-- a byte more with the top bit set
pub more_read : (bytes : List ℕ) (i value scale value' : ℕ) → i < 9 → i < length bytes → 128 ≤ get_or bytes i 0 → get_or bytes i 0 < 256 → HasRead bytes i value scale → value' ≡ value + (get_or bytes i 0 - 128) * scale → HasRead bytes (i + 1) value' (scale * 128)
more_read bytes i value scale value' lt inside large byte read is = record {
  small = (let low : get_or bytes i 0 - 128 ≤ 127 = omega arith in omega (arith, mul-le-mul_right scale low, read.small));
  power = (let e : 128 ^ (i + 1) ≡ 128 ^ i * 128 = pow_more 128 i in omega (arith, e, read.power));
  rest = (let room : 10 - (i + 1) ≡ 9 - i = omega arith in
      let low : value + (get_or bytes i 0 - 128) * scale ≡ value' = sym is in
      let whole : varint_within 10 bytes ≡ after (value + (get_or bytes i 0 - 128) * scale) (scale * 128) (i + 1) (varint_within (9 - i) (drop (i + 1) bytes)) =
      read.rest ∙ ap (after value scale i) (rest_more bytes i (omega arith) inside large) ∙ after_more value scale i (get_or bytes i 0) (varint_within (9 - i) (drop (i + 1) bytes)) in
      rw (room, is) whole);
}

-- one byte below 128 in front of a range
pub one_byte : (bytes : List ℕ) (at end number size : ℕ) → at < end → end ≤ length bytes → get_or bytes at 0 < 128 → number ≡ get_or bytes at 0 → size ≡ 1 → varint (slice_range bytes at end) ≡ Ok (number, size)
unfolding varint
one_byte bytes at end number size lt inside small is one =
    let fits : get_or bytes at 0 < 2 ^ 64 = omega arith in
    rw (is, one, range-cons bytes at end 0 lt inside, last_within 9 (get_or bytes at 0) (slice_range bytes (at + 1) end) small, lt-ltb (get_or bytes at 0) (2 ^ 64) fits) refl

-- two bytes in front of a range, of which the second is below 128
pub two_bytes : (bytes : List ℕ) (at end number size : ℕ) → at + 1 < end → end ≤ length bytes → 128 ≤ get_or bytes at 0 → get_or bytes at 0 < 256 → get_or bytes (at + 1) 0 < 128 → number ≡ get_or bytes at 0 - 128 + get_or bytes (at + 1) 0 * 128 → size ≡ 2 → varint (slice_range bytes at end) ≡ Ok (number, size)
unfolding varint
two_bytes bytes at end number size lt inside large byte small is two =
    let low = get_or bytes at 0 in
    let high = get_or bytes (at + 1) 0 in
    let behind : at < end = omega arith in
    let same : low - 128 + 128 * high ≡ number = omega arith in
    let fits : number < 2 ^ 64 = omega arith in
    let pair : ◌≡◌ {A = ℕ × ℕ} (low - 128 + 128 * high, 1 + 1) (number, size) = cc in
    let whole : varint_within 10 (slice_range bytes at end) ≡ Ok (number, size) =
    rw (range-cons bytes at end 0 behind inside, more_within 9 low (slice_range bytes (at + 1) end) large, range-cons bytes (at + 1) end 0 lt inside, last_within 8 high (slice_range bytes (at + 1 + 1) end) small)
    (ap (λ (p : ℕ × ℕ). Ok p) pair) in
    rw (whole, lt-ltb number (2 ^ 64) fits) refl
