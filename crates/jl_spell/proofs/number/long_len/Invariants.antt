use Rattle.std.proofs.Common.{◌≡◌, ℕ, ◌+◌, ◌<◌, ◌^◌, length}
use Rattle.jl_spell.specs.Varints.{varint_within, varint_of}
use Rattle.jl_spell.proofs.number.long_len.Given as goal

-- so many bytes are counted, and the last one of the rest is counted already
pub record Counts (number rest len : ℕ) : Type 0 where
  pub room : ℕ
  pub sum : len + room ≡ 11
  pub some : 0 < room
  pub small : rest < 128 ^ room
  pub counted : len + length (varint_within room rest) ≡ length (varint_of number) + 1

abbrev pub invariant-by_seven : goal.invariant-by_seven
invariant-by_seven l = Counts l.fn.number l.rest l.len

abbrev pub decreases-by_seven : goal.decreases-by_seven
decreases-by_seven l = l.rest
