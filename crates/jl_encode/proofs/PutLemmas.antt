-- The three steps of a triple term; and an error of a step, whatever its answer is seen as.
use Rattle.std.proofs.Common.{◌≡◌, ◌∙◌, List, ℕ, Option, Err}
use Rattle.jl_base.specs.Terms.{Value}
use Rattle.jl_rows.specs.Written.{Term}
use Rattle.jl_encode.specs.declared.refusal.Refusal.{Refusal}
use Rattle.jl_encode.specs.declared.refusal.Refusal.TheVariants.{TooWide, NoMemory}
use Rattle.jl_encode.specs.Desks.{Desk}
use Rattle.jl_encode.specs.Putting.{Step, at_once, then_put, put_term, Did, Puts}
use Rattle.jl_encode.proofs.DidLemmas.{did_once, did_then}

pub did_three : (s p o : Value) (D D1 D2 D3 : Desk) (out out1 out2 out3 : List ℕ) (a b c : Term)
    → Did (put_term s D) out a out1 D1 → Did (put_term p D1) out1 b out2 D2 → Did (put_term o D2) out2 c out3 D3 → Did (put_term (Value.Nested s p o) D) out (Term.Nested a b c) out3 D3
did_three s p o D D1 D2 D3 out out1 out2 out3 a b c first second third =
    did_then (put_term s D) (λ a D1. then_put (put_term p D1) (λ b D2. then_put (put_term o D2) (λ c D3. at_once (Term.Nested a b c) D3))) out out1 out3 a (Term.Nested a b c) D1 D3 first
    (did_then (put_term p D1) (λ b D2. then_put (put_term o D2) (λ c D3. at_once (Term.Nested a b c) D3)) out1 out2 out3 b (Term.Nested a b c) D2 D3 second
    (did_then (put_term o D2) (λ c D3. at_once (Term.Nested a b c) D3) out2 out3 out3 c (Term.Nested a b c) D3 D3 third (did_once (Term.Nested a b c) out3 D3)))

pub stops_as : {A B C : Type 0} (view : B → A) (view' : C → A) (s t : Option (Step A)) (out new : List ℕ) (D : Desk) (e : Refusal) → t ≡ s → Puts s view out new D (Err e) → Puts t view' out new D (Err e)
stops_as view view' s t out new D TooWide same stops = same ∙ stops
stops_as view view' s t out new D NoMemory same stops = tt
