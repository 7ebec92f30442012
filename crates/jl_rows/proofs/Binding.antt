-- What an answer of two steps tells of the first.
use Rattle.std.proofs.Common.{◌≡◌, Result, Ok, Err, refl}
use Rattle.jl_base.specs.Results.{◌>>=◌}

-- the answer of the first step, and that the second goes on from it
pub record Bound {A B E : Type 0} (r : Result A E) (f : A → Result B E) (y : B) : Type 0 where
  pub value : A
  pub was : r ≡ Ok value
  pub then : f value ≡ Ok y

pub bound : {A B E : Type 0} (r : Result A E) (f : A → Result B E) (y : B) → (r >>= f) ≡ Ok y → Bound r f y
bound (Ok x) f y e = record { value = x; was = refl; then = e }
bound (Err k) f y e = cc
