-- No varint of a number is shorter.
use Rattle.std.proofs.Common.{◌≡◌, ℕ, zero, suc, ◌+◌, ◌-◌, ◌*◌, ◌/◌, ◌^◌, ◌<◌, ◌≤◌, List, [], ◌∷◌, length, Ok, Err, nat_lt, true, false, if◌then◌else◌, refl, ap, ◌∙◌, inl, inr, arith}
use Rattle.std.specs.List.{AllByRecursion}
use Rattle.std.proofs.lemmas.Bool.{cases_lt, le-ltb, lt-ltb}
use Rattle.std.proofs.lemmas.Nat.{div-mul-add}
use Rattle.jl_base.specs.declared.kind.Kind.TheVariants.{BadVarint}
use Rattle.jl_wire.specs.Varint as read
use Rattle.jl_wire.proofs.Bound.{bound}
use Rattle.jl_spell.specs.Varints.{varint_within, varint_of}
use Rattle.jl_spell.specs.Laws.{VarintsAreShortest}

-- with room for one byte and more
one_length : (room n : ℕ) → n < 128 → length (varint_within (suc room) n) ≡ 1
unfolding varint_within
one_length room n small = let t : nat_lt n 128 ≡ true = lt-ltb n 128 small in rw t refl

more_length : (room n : ℕ) → 128 ≤ n → length (varint_within (suc room) n) ≡ suc (length (varint_within room (n / 128)))
unfolding varint_within
more_length room n large = let t : nat_lt n 128 ≡ false = le-ltb n 128 large in rw t refl

longer : (room b : ℕ) (high found : ℕ × ℕ) → 128 ≤ b → b < 256 → length (varint_within room high.0) ≤ high.1 → ◌≡◌ {A = ℕ × ℕ} (b - 128 + 128 * high.0, high.1 + 1) found → length (varint_within (suc room) found.0) ≤ found.1
longer room b high found large byte shorter same =
    let number : b - 128 + 128 * high.0 ≡ found.0 = ap (λ (p : ℕ × ℕ). p.0) same in
    let size : high.1 + 1 ≡ found.1 = ap (λ (p : ℕ × ℕ). p.1) same in
    elim (cases_lt found.0 128) [
      | inl small ↦ omega (arith, size, one_length room found.0 small)
      | inr more ↦
          (let parts : found.0 ≡ high.0 * 128 + (b - 128) = omega (arith, number) in
          let rest : found.0 / 128 ≡ high.0 = ap (λ n. n / 128) parts ∙ div-mul-add high.0 128 (b - 128) (omega arith) in
          let same_length : length (varint_within room (found.0 / 128)) ≡ length (varint_within room high.0) = ap (λ n. length (varint_within room n)) rest in
          omega (arith, size, shorter, same_length, more_length room found.0 more))
    ]

shortest_within : (room : ℕ) (bytes : List ℕ) (found : ℕ × ℕ) → AllByRecursion (λ b. b < 256) bytes → read.varint_within room bytes ≡ Ok found → length (varint_within room found.0) ≤ found.1
unfolding read.varint_within
shortest_within zero bytes found all e = cc
shortest_within (suc room) [] found all e = cc
shortest_within (suc room) (b ∷ bytes) found all e = elim (cases_lt b 128) [
  | inl small ↦
      (let t : nat_lt b 128 ≡ true = lt-ltb b 128 small in
      let said = rw t at e in
      let same : ◌≡◌ {A = ℕ × ℕ} (b, 1) found = let s = said in cc in
      let number : b ≡ found.0 = ap (λ (p : ℕ × ℕ). p.0) same in
      let size : 1 ≡ found.1 = ap (λ (p : ℕ × ℕ). p.1) same in
      omega (arith, size, one_length room found.0 (omega (arith, number, small))))
  | inr large ↦
      (let t : nat_lt b 128 ≡ false = le-ltb b 128 large in
      let said = rw t at e in
      let high = bound (read.varint_within room bytes) (λ (high : ℕ × ℕ). Ok (b - 128 + 128 * high.0, high.1 + 1)) found said in
      let same : ◌≡◌ {A = ℕ × ℕ} (b - 128 + 128 * high.value.0, high.value.1 + 1) found = let h = high.next in cc in
      longer room b high.value found large all.0 (shortest_within room bytes high.value all.1 high.was) same)
]

pub shortest : VarintsAreShortest
unfolding read.varint varint_of
shortest bytes found all e =
    let first = bound (read.varint_within 10 bytes) (λ (r : ℕ × ℕ). if nat_lt r.0 (2 ^ 64) then Ok r else Err BadVarint) found e in
    by_value (nat_lt first.value.0 (2 ^ 64)) first.value (shortest_within 10 bytes first.value all first.was) first.next
  where
    by_value : (t : _) (r : ℕ × ℕ) → length (varint_within 10 r.0) ≤ r.1 → (if t then Ok r else Err BadVarint) ≡ Ok found → length (varint_within 10 found.0) ≤ found.1
    by_value true r shorter h =
        let same : r ≡ found = cc in
        let number : length (varint_within 10 r.0) ≡ length (varint_within 10 found.0) = ap (λ (p : ℕ × ℕ). length (varint_within 10 p.0)) same in
        let size : r.1 ≡ found.1 = ap (λ (p : ℕ × ℕ). p.1) same in
        omega (arith, shorter, number, size)
    by_value false r shorter h = cc
