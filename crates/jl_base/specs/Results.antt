-- Answers and refusals in definitions, and lists that end early.
use Rattle.std.specs.Prelude.{◌≡◌, Bool, true, false, List, [], ◌∷◌, ◌++◌, Option, Some, None, Result, Ok, Err}

-- go on with an answer; a refusal stays
infixl 10 ◌>>=◌
abbrev pub ◌>>=◌ : {A B E : Type 0} → Result A E → (A → Result B E) → Result B E
(Ok x) >>= f = f x
(Err e) >>= f = Err e

-- a refusal where the test is true
abbrev pub refuse_if : {E : Type 0} → Bool → E → Result (Unit {0}) E
refuse_if true e = Err e
refuse_if false e = Ok tt

-- the value, or a refusal where there is none
abbrev pub some_or : {A E : Type 0} → Option A → E → Result A E
some_or (Some x) e = Ok x
some_or None e = Err e

-- the answer, where there is one
abbrev pub answered : {A E : Type 0} → Result A E → Option A
answered (Ok x) = Some x
answered (Err e) = None

-- the refusal, where there is one
abbrev pub refused : {A E : Type 0} → Result A E → Option E
refused (Ok x) = None
refused (Err e) = Some e

-- What a function of the code answers, seen by view, is what the definition says.
abbrev pub Gives : {X Y E : Type 0} → (X → Y) → Result X E → Result Y E → Type 0
Gives view (Ok x) said = said ≡ Ok (view x)
Gives view (Err e) said = said ≡ Err e

-- A list that perhaps ends in a fault.
pub record Reading (A E : Type 0) : Type 0 where
  pub items : List A
  pub fault : Option E

-- these items, then what follows them; what follows a fault is left out
abbrev pub followed : {A E : Type 0} → List A → Option E → Reading A E → Reading A E
followed xs (Some e) next = record { items = xs; fault = Some e }
followed xs None next = record { items = xs ++ next.items; fault = next.fault }

-- one reading, then another: the first alone where it ends in a fault
abbrev pub joined : {A E : Type 0} → Reading A E → Reading A E → Reading A E
joined a b = followed a.items a.fault b

-- an answer in front of a reading; a refusal is its fault
abbrev pub led : {A B E : Type 0} → Result A E → (A → Reading B E) → Reading B E
led (Ok x) rest = rest x
led (Err e) rest = record { items = []; fault = Some e }

-- one item in front
abbrev pub with_front : {A E : Type 0} → A → Reading A E → Reading A E
with_front x next = record { items = x ∷ next.items; fault = next.fault }
