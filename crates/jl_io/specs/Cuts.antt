-- Bytes that are cut into parts. A part begins where the one before it ends.
use Rattle.std.specs.Prelude.{ℕ, Bool, true, ◌&&◌, nat_le, List, [], ◌∷◌, slice_range}

-- the parts that end at these places, from a first place on
abbrev pub parts_from : ℕ → List ℕ → List ℕ → List (List ℕ)
parts_from start [] bytes = []
parts_from start (end ∷ ends) bytes = slice_range bytes start end ∷ parts_from end ends bytes

-- where the last part ends
abbrev pub last_end : ℕ → List ℕ → ℕ
last_end start [] = start
last_end start (end ∷ ends) = last_end end ends

-- no part ends before it begins
abbrev pub are_ordered : ℕ → List ℕ → Bool
are_ordered start [] = true
are_ordered start (end ∷ ends) = nat_le start end && are_ordered end ends
