-- A varint byte by byte, as a loop meets it.
use Rattle.std.proofs.Common.{◌≡◌, ℕ, zero, suc, ◌+◌, ◌*◌, ◌/◌, ◌%◌, ◌^◌, ◌<◌, ◌≤◌, [], ◌∷◌, nat_lt, true, false, refl, sym, ◌∙◌, arith, pow-suc}
use Rattle.std.proofs.lemmas.Bool.{le-ltb, lt-ltb}
use Rattle.std.proofs.lemmas.Nat.{div_below}
use Rattle.jl_spell.specs.Varints.{varint_within, varint_of}

pub whole : (n : ℕ) → varint_within 10 n ≡ varint_of n
unfolding varint_of
whole n = refl

-- the room behind one more byte, and what is left
pub record More (room n : ℕ) : Type 0 where
  pub after : ℕ
  pub less : suc after ≡ room
  pub some : 0 < after
  pub small : n / 128 < 128 ^ after
  pub spelled : varint_within room n ≡ (128 + n % 128) ∷ varint_within after (n / 128)

pub more : (room n : ℕ) → 128 ≤ n → n < 128 ^ room → More room n
unfolding varint_within
more zero n large fits = absurd (omega (arith, fits))
more (suc zero) n large fits = absurd (omega (arith, fits))
more (suc (suc room)) n large fits =
    let power : 128 ^ suc (suc room) ≡ 128 ^ suc room * 128 = pow-suc 128 (suc room) in
    let below : n < 128 ^ suc room * 128 = omega (arith, power, fits) in
    let t : nat_lt n 128 ≡ false = le-ltb n 128 large in
    record { after = suc room; less = refl; some = omega arith; small = div_below n 128 (128 ^ suc room) (omega arith) below; spelled = rw t refl }

pub last : (room n : ℕ) → n < 128 → 0 < room → varint_within room n ≡ n ∷ []
unfolding varint_within
last zero n small some = absurd (omega arith)
last (suc room) n small some = let t : nat_lt n 128 ≡ true = lt-ltb n 128 small in rw t refl

pub one_byte : (n : ℕ) → n < 128 → varint_of n ≡ n ∷ []
one_byte n small = sym (whole n) ∙ last 10 n small (omega arith)
