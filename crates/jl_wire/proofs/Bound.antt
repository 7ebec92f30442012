-- An answer that came through two steps came through the first.
use Rattle.std.proofs.Common.{◌≡◌, Bool, true, false, Result, Ok, Err, if◌then◌else◌, refl}
use Rattle.jl_base.specs.Results.{◌>>=◌}

-- the first step's answer, and what the second made of it
pub record Bound {A B E : Type 0} (first : Result A E) (go : A → Result B E) (last : B) : Type 0 where
  pub value : A
  pub was : first ≡ Ok value
  pub next : go value ≡ Ok last

pub bound : {A B E : Type 0} (first : Result A E) (go : A → Result B E) (last : B) → (first >>= go) ≡ Ok last → Bound first go last
bound (Ok value) go last e = record { value = value; was = refl; next = e }
bound (Err k) go last e = cc

-- an answer that a refusal's test let through
pub let_through : {A E : Type 0} (t : Bool) (k : E) (r : Result A E) (last : A) → (if t then Err k else r) ≡ Ok last → (t ≡ false) × (r ≡ Ok last)
let_through true k r last e = cc
let_through false k r last e = (refl, e)
