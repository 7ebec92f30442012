-- A written label is read back byte by byte from the left.
use Rattle.std.specs.Prelude.{ℕ, ◌+◌, ◌*◌, ◌==◌, if◌then◌else◌, List, [], ◌∷◌}
use Rattle.std.specs.Char.{digit_value}

-- `X` with two hexadecimal digits behind it is the byte that they say, `X` alone nothing, and all else itself.
unfoldable pub label_read : List ℕ → List ℕ
label_read [] = []
label_read (c ∷ []) = if c == 0x58 then [] else c ∷ []
label_read (c ∷ d ∷ []) = if c == 0x58 then [] else c ∷ label_read (d ∷ [])
label_read (c ∷ high ∷ low ∷ rest) = if c == 0x58 then (16 * digit_value high + digit_value low) ∷ label_read rest else c ∷ label_read (high ∷ low ∷ rest)
