-- One read into a page after its first bytes.
use Rattle.std.proofs.Common.{◌≡◌, ℕ, ◌+◌, ◌≤◌, ◌<◌, List, [], ◌++◌, length, take, drop, Result, Ok, Err, refl, sym, ◌∙◌, ap, arith, append_assoc, take_at, drop_at, take-add, length-append, length-take-le}
use Rattle.std.proofs.lemmas.List.{take-take, take-append-le}
use Rattle.std.specs.Io.{ReadsAtMost}
use Rattle.std.specs.Io.KnownBytes.{IsAtEnd}
use Rattle.jl_base.specs.Causes.{HasCause}
use Rattle.jl_base.specs.Sources.{Told, Reads, moved}
use Rattle.jl_base.specs.Filling.{ReadsAt}

module _ (page buf rest tail : List ℕ) (at len : ℕ) (whole : len ≡ length page) (fits : at + length buf ≤ len) where
  front : (n : ℕ) → n ≤ length buf → take (at + n) (take len ((take at page ++ (buf ++ rest)) ++ tail)) ≡ take at page ++ take n buf
  front n few =
      let first : length (take at page) ≡ at = length-take-le at page (omega arith) in
      let after = (buf ++ rest) ++ tail in
      take-take (at + n) len ((take at page ++ (buf ++ rest)) ++ tail) (omega arith)
      ∙ ap (take (at + n)) (append_assoc (take at page) (buf ++ rest) tail)
      ∙ take-add at n (take at page ++ after)
      ∙ ap (λ (x : List ℕ). x ++ take n (drop at (take at page ++ after))) (take_at (take at page) after at first)
      ∙ ap (λ (x : List ℕ). take at page ++ take n x) (drop_at (take at page) after at first)
      ∙ ap (λ (x : List ℕ). take at page ++ x) (take-append-le n (buf ++ rest) tail (omega (arith, length-append buf rest)) ∙ take-append-le n buf rest few)

  pub read_in : {E : Type 0} (most : ℕ) (before after : Told) (result : Result ℕ E) → length buf ≤ most → 0 < length buf → ReadsAtMost result buf → Reads before after (moved result buf)
      → (result ≡ Ok 0 → 0 < length buf → IsAtEnd after.left) → HasCause before.faults after.faults result → ReadsAt {E = E} most at before after page (take len ((take at page ++ (buf ++ rest)) ++ tail)) result
  read_in most before after (Ok n) size some bound reads end cause =
      let within : n ≤ length buf = bound.0 in
      let long : length (take n buf) ≡ n = length-take-le n buf within in
      record {
        bytes = take n buf;
        reads = reads;
        front = ap (λ (k : ℕ). take (at + k) (take len ((take at page ++ (buf ++ rest)) ++ tail))) long ∙ front n within;
        few = omega (arith, long);
        count = sym long;
        none = tt;
        ended = λ e. end e some;
        cause = cause;
      }
  read_in most before after (Err e) size some bound reads end cause = record {
    bytes = [];
    reads = reads;
    front = front 0 (omega arith);
    few = omega arith;
    count = tt;
    none = refl;
    ended = λ e. absurd (cc);
    cause = cause;
  }
