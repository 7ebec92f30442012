-- Numbers in words.
use Rattle.std.specs.Prelude.{ℕ, ◌+◌, ◌-◌, ◌*◌, ◌^◌, Bool, false, not, ◌==◌, ◌&&◌, ◌||◌, nat_le, nat_lt, List, [], ◌∷◌, length, Option, Some, None, if◌then◌else◌}
use Rattle.std.specs.List.{list_all}

abbrev pub is_digit : ℕ → Bool
is_digit byte = nat_le 48 byte && nat_le byte 57

-- `0`, or digits that don't begin with 0
abbrev pub is_numeral : List ℕ → Bool
is_numeral [] = false
is_numeral (digit ∷ digits) = list_all is_digit (digit ∷ digits) && (not (digit == 48) || (length digits == 0))

-- the number that these digits write after those of n
abbrev pub number_after : ℕ → List ℕ → ℕ
number_after n [] = n
number_after n (digit ∷ digits) = number_after (10 * n + (digit - 48)) digits

-- the number that a text writes, where it is one of this range
abbrev pub number_within : ℕ → ℕ → List ℕ → Option ℕ
number_within least most text =
    if is_numeral text && nat_le least (number_after 0 text) && nat_le (number_after 0 text) most then Some (number_after 0 text) else None

-- the same of what a text writes after the digits of n, where it is below 2^64
abbrev pub small_after : ℕ → List ℕ → Option ℕ
small_after n text = if list_all is_digit text && nat_lt (number_after n text) (2 ^ 64) then Some (number_after n text) else None

-- one digit of it
abbrev pub next : ℕ → ℕ → Option ℕ
next n byte = if is_digit byte && nat_lt (10 * n + (byte - 48)) (2 ^ 64) then Some (10 * n + (byte - 48)) else None
