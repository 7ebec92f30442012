-- Calls past the last number that a schedule can list.
use Rattle.std.proofs.Common.{◌≡◌, ℕ, suc, ◌<◌, ◌≤◌, ◌||◌, ◌==◌, Bool, false, List, [], ◌∷◌, get_or, refl, ◌∙◌, ap, arith}
use Rattle.std.proofs.lemmas.Bool.{ne_eqb}
use Rattle.std.specs.List.{list_any}

-- a number above all that are listed isn't listed
pub list_any-above : (xs : List ℕ) (n m : ℕ) → ((i : ℕ) → get_or xs i 0 < n) → n ≤ m → list_any (λ x. x == m) xs ≡ false
list_any-above [] n m below le = refl
list_any-above (x ∷ xs) n m below le =
    let first : x < n = below 0 in
    ap (λ (b : Bool). b || list_any (λ y. y == m) xs) (ne_eqb x m (λ e. omega arith))
    ∙ list_any-above xs n m (λ i. below (suc i)) le
