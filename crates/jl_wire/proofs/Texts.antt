-- When bytes are UTF-8.
use Rattle.std.proofs.Common.{◌≡◌, ◌↔◌, ℕ, ◌+◌, ◌-◌, ◌<◌, ◌≤◌, Bool, true, false, IsTrue, nat_lt, List, length, get_or, drop, slice_range, refl, sym, inl, inr, arith}
use Rattle.std.proofs.lemmas.Bool.{cases_lt, false_from_ne_true}
use Rattle.std.proofs.lemmas.List.{get_or-take, get_or-drop, get_or_past}
use Rattle.std.proofs.lemmas.Str.{IsUtf8-from_ascii, is_utf8-from_IsUtf8, IsUtf8-from_is_utf8}
use Rattle.std.specs.List.{position_or_len}
use Rattle.std.specs.Str.{IsUtf8, is_utf8}
use Rattle.jl_wire.proofs.AsciiRuns.{low_in_run}
use Rattle.jl_wire.proofs.Ranges.{length-range}

-- bytes below 128 are
pub ascii_is_utf8 : (bytes : List ℕ) → ((k : ℕ) → k < length bytes → get_or bytes k 0 < 128) → is_utf8 bytes ≡ true
ascii_is_utf8 bytes low = is_utf8-from_IsUtf8 bytes (IsUtf8-from_ascii bytes (λ k. elim (cases_lt k (length bytes)) [
  | inl inside ↦ low k inside
  | inr past ↦ omega (arith, get_or_past bytes k 0 past)
]))

-- a test that says whether bytes are UTF-8 is that test
pub same_test : (bytes : List ℕ) (t : Bool) → (IsTrue t ↔ IsUtf8 bytes) → t ≡ is_utf8 bytes
same_test bytes true says = sym (is_utf8-from_IsUtf8 bytes (says.0 refl))
same_test bytes false says = sym (false_from_ne_true (is_utf8 bytes) (λ e. let no : false ≡ true = says.1 (IsUtf8-from_is_utf8 bytes e) in cc))

-- a text that is no longer than the run of low bytes at its place
pub run_is_utf8 : (bytes : List ℕ) (at len : ℕ) → at + 16 ≤ length bytes → len ≤ 16 → len ≤ position_or_len (λ b. nat_lt 127 b) (slice_range bytes at (at + 16)) → is_utf8 (slice_range bytes at (at + len)) ≡ true
run_is_utf8 bytes at len inside few le = ascii_is_utf8 (slice_range bytes at (at + len)) (λ k lt.
    let short : k < len = omega (arith, length-range bytes at (at + len) (omega arith) (omega arith)) in
    let count : at + len - at ≡ len = omega arith in
    let low = low_in_run bytes at len inside le (at + k) (omega arith) (omega arith) in
    rw (count, get_or-take len (drop at bytes) k 0 short, get_or-drop at bytes k 0) low)
