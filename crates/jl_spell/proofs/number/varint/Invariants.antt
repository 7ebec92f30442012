use Rattle.std.proofs.Common.{◌≡◌, ℕ, ◌+◌, ◌<◌, ◌^◌, ◌++◌, List, length, take}
use Rattle.jl_spell.specs.Varints.{varint_within, varint_of}
use Rattle.jl_spell.proofs.number.varint.Given as goal

-- these first bytes stand, and the rest follows
pub record Stands (number rest len : ℕ) (held : List ℕ) : Type 0 where
  pub room : ℕ
  pub sum : len + room ≡ 10
  pub some : 0 < room
  pub small : rest < 128 ^ room
  pub size : length held ≡ 10
  pub written : take len held ++ varint_within room rest ≡ varint_of number

abbrev pub invariant-by_byte : goal.invariant-by_byte
invariant-by_byte l = Stands l.fn.number l.rest l.len l.held

abbrev pub decreases-by_byte : goal.decreases-by_byte
decreases-by_byte l = l.rest
