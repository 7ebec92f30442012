-- The number that digits write, digit by digit.
use Rattle.std.proofs.Common.{◌≡◌, ℕ, ◌+◌, ◌*◌, ◌-◌, ◌^◌, ◌≤◌, ◌<◌, Bool, true, false, ◌&&◌, cond, List, [], ◌∷◌, Some, None, refl, sym, ◌∙◌, arith, inl, inr}
use Rattle.std.specs.Prelude.{nat_lt}
use Rattle.std.specs.List.{list_all}
use Rattle.std.proofs.lemmas.Bool.{cases_lt, cond_below, cond_above}
use Rattle.jl_words.specs.Numbers.{is_digit, number_after, small_after, next}

-- digits make no number less
pub grows : (n : ℕ) (text : List ℕ) → n ≤ number_after n text
grows n [] = omega arith
grows n (digit ∷ digits) = let more : 10 * n + (digit - 48) ≤ number_after (10 * n + (digit - 48)) digits = grows (10 * n + (digit - 48)) digits in omega (arith, more)

-- a number that is too large stays so
too_large_at : (b : Bool) (n : ℕ) (digits : List ℕ) → 2 ^ 64 ≤ n → cond (b && nat_lt (number_after n digits) (2 ^ 64)) (Some (number_after n digits)) None ≡ None
too_large_at false n digits large = refl
too_large_at true n digits large = let more = grows n digits in sym (cond_above (number_after n digits) (2 ^ 64) (Some (number_after n digits)) None None (omega (arith, large, more)) refl)

-- without a next digit, or with one that makes it too large
no_more_at : (b : Bool) (n : ℕ) (digits : List ℕ) → cond (b && nat_lt n (2 ^ 64)) (Some n) None ≡ None
    → cond ((b && list_all is_digit digits) && nat_lt (number_after n digits) (2 ^ 64)) (Some (number_after n digits)) None ≡ None
no_more_at false n digits is = refl
no_more_at true n digits is = elim (cases_lt n (2 ^ 64)) [ inl small ↦ absurd (let some : Some n ≡ None = cond_below n (2 ^ 64) (Some n) None small ∙ is in (cc)) | inr large ↦ too_large_at (list_all is_digit digits) n digits large ]

pub no_more : (n digit : ℕ) (digits : List ℕ) → next n digit ≡ None → small_after n (digit ∷ digits) ≡ None
no_more n digit digits is = no_more_at (is_digit digit) (10 * n + (digit - 48)) digits is

-- at the end
pub ended : (n : ℕ) → n < 2 ^ 64 → Some n ≡ small_after n []
ended n small = cond_below n (2 ^ 64) (Some n) None small
