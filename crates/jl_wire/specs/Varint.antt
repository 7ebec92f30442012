-- Varints (Protocol Buffers, Encoding, "Base 128 Varints").
use Rattle.std.specs.Prelude.{ℕ, zero, suc, ◌+◌, ◌-◌, ◌*◌, ◌^◌, List, [], ◌∷◌, Result, Ok, Err, nat_lt, if◌then◌else◌}
use Rattle.jl_base.specs.Results.{◌>>=◌}
use Rattle.jl_base.specs.declared.kind.Kind.{Kind}
use Rattle.jl_base.specs.declared.kind.Kind.TheVariants.{Truncated, BadVarint}

-- A byte below 128 is the last. One from 128 on has its low seven bits, and the bytes after it stand for the rest. The
-- answer is the number and how many bytes it takes, of at most room.
unfoldable pub varint_within : ℕ → List ℕ → Result (ℕ × ℕ) Kind
varint_within zero bytes = Err BadVarint
varint_within (suc room) [] = Err Truncated
varint_within (suc room) (b ∷ bytes) =
    if nat_lt b 128 then Ok (b, 1) else (varint_within room bytes >>= λ high. Ok (b - 128 + 128 * high.0, high.1 + 1))

-- the number in front, of at most ten bytes and below 2^64
unfoldable pub varint : List ℕ → Result (ℕ × ℕ) Kind
varint bytes = varint_within 10 bytes >>= λ found. if nat_lt found.0 (2 ^ 64) then Ok found else Err BadVarint
