-- Words on lists of numbers.
use Rattle.std.specs.Prelude.{ℕ, List, [], ◌∷◌, count_by, min, nat_lt, ◌==◌, if◌then◌else◌}

-- how often x stands in the list
abbrev pub times : ℕ → List ℕ → ℕ
times x xs = count_by (λ y. y == x) xs

-- 1 where x is below n, and else 0
abbrev pub once_below : ℕ → ℕ → ℕ
once_below x n = if nat_lt x n then 1 else 0

-- the least of a bound and of these numbers
abbrev pub least_of : ℕ → List ℕ → ℕ
least_of bound [] = bound
least_of bound (x ∷ xs) = min x (least_of bound xs)
