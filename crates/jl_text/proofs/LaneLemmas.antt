-- From the mask of a load to the bytes under it.
use Rattle.std.proofs.Common.{◌≡◌, ℕ, ◌+◌, ◌%◌, ◌^◌, ◌<◌, ◌≤◌, Bool, true, false, not, List, map, length, get_or, nat_eq, leb, Fits, w8, refl, sym, ap, ◌∙◌, arith, inl, inr}
use Rattle.std.proofs.lemmas.Bool.{agree_below, agree_below_at, not-false, not-true, eqb-true, leb-true, le-leb, cases_eq, cases_lt}
use Rattle.std.proofs.lemmas.List.{length-map}
use Rattle.std.proofs.lemmas.Simd.{map-map, mask_l-mod, length-chunk, none_from_empty_mask, trailing_mask_l, run_in_chunk_fails, run_in_chunk_stops}
use lib.Count.{count_trailing_zeros}
use lib.Lanes.{chunk, mask_l, top}
use Rattle.jl_text.specs.declared.escape.Terminal.{Terminal}
use Rattle.jl_text.specs.Escapes.{is_raw, AreRaw}

-- f computes a lane of z, whose top bit is set where the byte is escaped
module _ (t : Terminal) (text : List ℕ) (at n : ℕ) (z : List ℕ) (f : ℕ → ℕ) (room : at + n ≤ length text) (few : n ≤ 64)
    (fits : (k : ℕ) → Fits w8 (get_or text k 0)) (lanes : z ≡ map f (chunk at n text))
    (table : agree_below (λ x. top 7 (f x)) (λ x. not (is_raw t x)) 256 ≡ true) where
  abbrev stops : ℕ → Bool
  stops x = top 7 (f x)

  long : length (map stops (chunk at n text)) ≤ 64
  long = omega (arith, length-map (chunk at n text) stops, length-chunk at n text room)

  mask : mask_l (map (top 7) z) % 2 ^ 64 ≡ mask_l (map stops (chunk at n text))
  mask = ap (λ l. mask_l l % 2 ^ 64) (ap (map (top 7)) lanes ∙ map-map (top 7) f (chunk at n text)) ∙ mask_l-mod (map stops (chunk at n text)) 64 long

  raw_from_passed : (k : ℕ) → stops (get_or text k 0) ≡ false → is_raw t (get_or text k 0) ≡ true
  raw_from_passed k passed = not-false _ (sym (agree_below_at stops (λ x. not (is_raw t x)) 256 (get_or text k 0) table (fits k).fits) ∙ passed)

  -- no bit is set
  pub raw_from_empty_mask : nat_eq (mask_l (map (top 7) z) % 2 ^ 64) 0 ≡ true → AreRaw t text at (at + n)
  raw_from_empty_mask empty = λ k from to. raw_from_passed k (none_from_empty_mask stops text at n 0 room (sym mask ∙ eqb-true _ 0 empty) k from to)

  -- the lowest bits are not set
  pub raw_below_first : (len : ℕ) → len ≤ n → leb len (count_trailing_zeros 64 (mask_l (map (top 7) z) % 2 ^ 64)) ≡ true → AreRaw t text at (at + len)
  raw_below_first len within lowest =
      let below = leb-true len _ lowest in
      let m = mask_l (map stops (chunk at n text)) in
      elim (cases_eq m 0) [
        | inl none ↦ λ k from to. raw_from_passed k (none_from_empty_mask stops text at n 0 room none k from (omega arith))
        | inr some ↦
            let first = trailing_mask_l stops 64 (chunk at n text) (omega (arith, length-chunk at n text room)) (omega arith) in
            λ k from to. raw_from_passed k (run_in_chunk_fails stops text at n _ 0 room first k from (omega (arith, ap (count_trailing_zeros 64) mask)))
      ]

  -- the bytes before the lowest bit, and all of them, where it lies behind them
  pub raw_to_first : (len : ℕ) → len ≡ count_trailing_zeros 64 (mask_l (map (top 7) z) % 2 ^ 64) → len ≤ n → AreRaw t text at (at + len)
  raw_to_first len is within = raw_below_first len within (le-leb len _ (omega (arith, is)))

  pub raw_before_first : n < count_trailing_zeros 64 (mask_l (map (top 7) z) % 2 ^ 64) → AreRaw t text at (at + n)
  raw_before_first past = raw_below_first n (omega arith) (le-leb n _ (omega (arith, past)))

  empty_counts : (m : ℕ) → m ≡ 0 → count_trailing_zeros 64 m ≡ 64
  unfolding count_trailing_zeros
  empty_counts m none = ap (count_trailing_zeros 64) none

  -- the byte under the lowest bit
  pub escaped_at_first : (len : ℕ) → len ≡ count_trailing_zeros 64 (mask_l (map (top 7) z) % 2 ^ 64) → len < n → is_raw t (get_or text (at + len) 0) ≡ false
  escaped_at_first len is within =
      let m = mask_l (map stops (chunk at n text)) in
      let counted : len ≡ count_trailing_zeros 64 m = is ∙ ap (count_trailing_zeros 64) mask in
      elim (cases_eq m 0) [
        | inl none ↦ absurd (omega (arith, counted, empty_counts m none))
        | inr some ↦
            let first = trailing_mask_l stops 64 (chunk at n text) (omega (arith, length-chunk at n text room)) (omega arith) in
            let set = run_in_chunk_stops stops text at n len 0 room (counted ∙ first) within in
            not-true _ (sym (agree_below_at stops (λ x. not (is_raw t x)) 256 (get_or text (at + len) 0) table (fits (at + len)).fits) ∙ set)
      ]

  -- where the bytes stand for themselves, the lowest bits are not set
  pub lowest_of_raw : (len : ℕ) → len ≤ n → AreRaw t text at (at + len) → leb len (count_trailing_zeros 64 (mask_l (map (top 7) z) % 2 ^ 64)) ≡ true
  lowest_of_raw len within raw =
      let found = count_trailing_zeros 64 (mask_l (map (top 7) z) % 2 ^ 64) in
      elim (cases_lt found len) [
        | inl less ↦
            let stopped = escaped_at_first found refl (omega (arith, less, within)) in
            let passed = raw (at + found) (omega arith) (omega (arith, less)) in
            absurd (cc)
        | inr beyond ↦ le-leb len found beyond
      ]
