-- The shortest varint of a number (Protocol Buffers, Encoding, "Base 128 Varints").
use Rattle.std.specs.Prelude.{ℕ, zero, suc, ◌+◌, ◌/◌, ◌%◌, List, [], ◌∷◌, nat_lt, if◌then◌else◌}

-- A number below 128 is the last byte. Of a greater one the low seven bits come first, in a byte from 128 on, and the
-- rest follows. There are at most room bytes.
unfoldable pub varint_within : ℕ → ℕ → List ℕ
varint_within zero n = []
varint_within (suc room) n = if nat_lt n 128 then n ∷ [] else ((128 + n % 128) ∷ varint_within room (n / 128))

-- ten bytes are room for every number below 2^64
unfoldable pub varint_of : ℕ → List ℕ
varint_of n = varint_within 10 n
