-- A varint is read back.
use Rattle.std.proofs.Common.{◌≡◌, ℕ, zero, suc, ◌+◌, ◌-◌, ◌*◌, ◌/◌, ◌%◌, ◌^◌, ◌<◌, ◌≤◌, List, ◌++◌, length, Ok, nat_lt, true, false, refl, ap, inl, inr, arith, pow-suc, div-add-mod'}
use Rattle.std.proofs.lemmas.Bool.{cases_lt, le-ltb, lt-ltb}
use Rattle.std.proofs.lemmas.Nat.{div_below}
use Rattle.jl_wire.specs.Varint as read
use Rattle.jl_spell.specs.Varints.{varint_within, varint_of}
use Rattle.jl_spell.specs.Laws.{VarintsReadBack}

-- one byte, and nothing more
one_back : (room n : ℕ) (rest : List ℕ) → n < 128 → read.varint_within (suc room) (varint_within (suc room) n ++ rest) ≡ Ok (n, length (varint_within (suc room) n))
unfolding read.varint_within varint_within
one_back room n rest small = let t : nat_lt n 128 ≡ true = lt-ltb n 128 small in simp t refl

-- one byte more
more_back : (room n : ℕ) (rest : List ℕ) → 128 ≤ n → read.varint_within room (varint_within room (n / 128) ++ rest) ≡ Ok (n / 128, length (varint_within room (n / 128)))
    → read.varint_within (suc room) (varint_within (suc room) n ++ rest) ≡ Ok (n, length (varint_within (suc room) n))
unfolding read.varint_within varint_within
more_back room n rest large inner =
    let t : nat_lt n 128 ≡ false = le-ltb n 128 large in
    let byte : nat_lt (128 + n % 128) 128 ≡ false = le-ltb (128 + n % 128) 128 (omega arith) in
    let whole : 128 + n % 128 - 128 + 128 * (n / 128) ≡ n = omega (arith, div-add-mod' n 128) in
    let size : length (varint_within room (n / 128)) + 1 ≡ suc (length (varint_within room (n / 128))) = omega arith in
    let e : ◌≡◌ {A = ℕ × ℕ} (128 + n % 128 - 128 + 128 * (n / 128), length (varint_within room (n / 128)) + 1) (n, suc (length (varint_within room (n / 128)))) = cc in
    rw (t, byte, inner) (ap (λ (p : ℕ × ℕ). Ok p) e)

pub within_back : (room n : ℕ) (rest : List ℕ) → n < 128 ^ suc room → read.varint_within (suc room) (varint_within (suc room) n ++ rest) ≡ Ok (n, length (varint_within (suc room) n))
within_back zero n rest lt = one_back zero n rest (omega (arith, lt))
within_back (suc room) n rest lt = elim (cases_lt n 128) [
  | inl small ↦ one_back (suc room) n rest small
  | inr large ↦
      (let power : 128 ^ suc (suc room) ≡ 128 ^ suc room * 128 = pow-suc 128 (suc room) in
      let fits : n < 128 ^ suc room * 128 = omega (arith, power, lt) in
      more_back (suc room) n rest large (within_back room (n / 128) rest (div_below n 128 (128 ^ suc room) (omega arith) fits)))
]

pub varint_back : VarintsReadBack
unfolding read.varint varint_of
varint_back n rest fits =
    let room : n < 128 ^ suc 9 = omega (arith, fits) in
    let t : nat_lt n (2 ^ 64) ≡ true = lt-ltb n (2 ^ 64) fits in
    rw (within_back 9 n rest room, t) refl
