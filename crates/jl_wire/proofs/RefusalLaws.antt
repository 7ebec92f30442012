-- A varint is refused exactly where its bytes are cut off or stand for too much.
use Rattle.std.proofs.Common.{◌≡◌, ℕ, zero, suc, ◌+◌, ◌-◌, ◌*◌, ◌<◌, ◌≤◌, List, length, get_or, take, Result, Ok, Err, nat_lt, refl, sym, ◌∙◌, subst, add-one, lit<, lit≤, inl, inr, arith}
use Rattle.std.proofs.lemmas.Bool.{cases_lt, ltb-true, ltb-false}
use Rattle.std.proofs.lemmas.List.{get_or-take, length-take}
use Rattle.std.proofs.lemmas.List.Sums.{prefix_len-le-length, prefix_len_passes, prefix_len_stops}
use Rattle.std.specs.List.{prefix_len}
use Rattle.jl_base.specs.declared.kind.Kind.{Kind}
use Rattle.jl_base.specs.declared.kind.Kind.TheVariants.{Truncated, BadVarint}
use Rattle.jl_wire.proofs.VarintSteps.{HasRead, nothing_read, more_read, ended_at, last_at, fits_at, refused_at_tenth, read_at_tenth}
use Rattle.jl_wire.specs.Varint.{varint}
use Rattle.jl_wire.specs.Refusals.{AreContinued, IsCutOff, IsTooLarge, RefusesExactly}

-- each byte is one
abbrev pub AreBytes : List ℕ → Type 0
AreBytes bytes = (k : ℕ) → get_or bytes k 0 < 256

-- what a varint says at each of its three ends
cut_off : (bytes : List ℕ) → varint bytes ≡ Err Truncated → IsCutOff bytes → RefusesExactly bytes
cut_off bytes said is = record {
  cut_off = (λ _. is, λ _. said);
  too_large = (λ other. (let no : ◌≡◌ {A = Result (ℕ × ℕ) Kind} (Err Truncated) (Err BadVarint) = sym said ∙ other in cc), λ large. absurd (omega (arith, is.0, large.0)));
}

too_large : (bytes : List ℕ) → varint bytes ≡ Err BadVarint → IsTooLarge bytes → RefusesExactly bytes
too_large bytes said is = record {
  cut_off = (λ other. (let no : ◌≡◌ {A = Result (ℕ × ℕ) Kind} (Err BadVarint) (Err Truncated) = sym said ∙ other in cc), λ cut. absurd (omega (arith, is.0, cut.0)));
  too_large = (λ _. is, λ _. said);
}

read : (bytes : List ℕ) (found : ℕ × ℕ) → varint bytes ≡ Ok found → (IsCutOff bytes → ⊥) → (IsTooLarge bytes → ⊥) → RefusesExactly bytes
read bytes found said not_cut not_large = record {
  cut_off = (λ other. (let no : ◌≡◌ {A = Result (ℕ × ℕ) Kind} (Ok found) (Err Truncated) = sym said ∙ other in cc), λ cut. absurd (not_cut cut));
  too_large = (λ other. (let no : ◌≡◌ {A = Result (ℕ × ℕ) Kind} (Ok found) (Err BadVarint) = sym said ∙ other in cc), λ large. absurd (not_large large));
}

-- the bytes that are known to be continued have been read
pub record Read (bytes : List ℕ) (n : ℕ) : Type 0 where
  pub value : ℕ
  pub scale : ℕ
  pub read : HasRead bytes n value scale

read_first : (bytes : List ℕ) (n : ℕ) → AreBytes bytes → n ≤ 9 → n ≤ length bytes → AreContinued n bytes → Read bytes n
read_first bytes zero each few inside continued = record { value = 0; scale = 1; read = nothing_read bytes }
read_first bytes (suc n) each few inside continued =
    let before = read_first bytes n each (omega arith) (omega arith) (λ k lt. continued k (omega arith)) in
    let value = before.value + (get_or bytes n 0 - 128) * before.scale in
    let more : HasRead bytes (n + 1) value (before.scale * 128) = more_read bytes n before.value before.scale value (omega arith) (omega arith) (continued n (omega arith)) (each n) before.read refl in
    record { value = value; scale = before.scale * 128; read = subst (λ (i : ℕ). HasRead bytes i value (before.scale * 128)) (add-one n) more }

-- the ninth byte is continued as well
at_tenth : (bytes : List ℕ) → AreBytes bytes → 9 ≤ length bytes → AreContinued 9 bytes → RefusesExactly bytes
at_tenth bytes each long continued =
    let before = read_first bytes 9 each (lit≤ tt) long continued in
    elim (cases_lt 9 (length bytes)) [
      | inl inside ↦ (elim (cases_lt 1 (get_or bytes 9 0)) [
        | inl above ↦ too_large bytes (refused_at_tenth bytes 9 before.value before.scale refl inside above before.read) (inside, continued, above)
        | inr low ↦ read bytes _ (read_at_tenth bytes 9 before.value before.scale _ refl inside low before.read refl) (λ cut. omega (arith, cut.0)) (λ large. omega (arith, large.2))
      ])
      | inr ended ↦ cut_off bytes (ended_at bytes 9 before.value before.scale (lit< tt) ended before.read) (omega arith, λ k lt. continued k (omega arith))
    ]

-- the first byte that isn't continued, or the end, comes before
before_ninth : (bytes : List ℕ) (n : ℕ) → AreBytes bytes → n < 9 → n ≤ length bytes → AreContinued n bytes → (n < length bytes → get_or bytes n 0 < 128) → RefusesExactly bytes
before_ninth bytes n each few inside continued stops =
    let before = read_first bytes n each (omega arith) inside continued in
    elim (cases_lt n (length bytes)) [
      | inl lt ↦ (
          let small = stops lt in
          read bytes _ (last_at bytes n before.value before.scale _ (omega arith) lt small before.read refl (fits_at n before.value before.scale (get_or bytes n 0) few small before.read)) (λ cut. omega (arith, small, cut.1 n lt)) (λ large. omega (arith, small, large.1 n few)))
      | inr ended ↦ cut_off bytes (ended_at bytes n before.value before.scale (omega arith) ended before.read) (omega arith, λ k lt. continued k (omega arith))
    ]

pub refuses_exactly : (bytes : List ℕ) → AreBytes bytes → RefusesExactly bytes
refuses_exactly bytes each =
    let n = prefix_len (λ b. nat_lt 127 b) (take 9 bytes) in
    let few : n ≤ 9 = omega (arith, prefix_len-le-length (λ b. nat_lt 127 b) (take 9 bytes), length-take 9 bytes) in
    let inside : n ≤ length bytes = omega (arith, prefix_len-le-length (λ b. nat_lt 127 b) (take 9 bytes), length-take 9 bytes) in
    let continued : AreContinued n bytes = (λ k lt.
    let short : k < 9 = omega arith in
    omega (arith, rw (get_or-take 9 bytes k 0 short) at (ltb-true 127 _ (prefix_len_passes (λ b. nat_lt 127 b) (take 9 bytes) k 0 lt)))) in
    elim (cases_lt n 9) [
      | inl lt ↦ before_ninth bytes n each lt inside continued (λ more.
          let ends : n < length (take 9 bytes) = omega (arith, length-take 9 bytes) in
          omega (arith, rw (get_or-take 9 bytes n 0 lt) at (ltb-false 127 _ (prefix_len_stops (λ b. nat_lt 127 b) (take 9 bytes) 0 ends))))
      | inr ge ↦ at_tenth bytes each (omega arith) (λ k lt. continued k (omega arith))
    ]
