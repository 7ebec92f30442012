-- What a shelf was given in a call, as a list of parts.
use Rattle.std.specs.Prelude.{◌≡◌, ℕ, List, [], ◌∷◌, ◌++◌, Option, Result, OnOk}
use Rattle.jl_base.specs.Sinks.{Held, added, turned, Becomes}

-- with these parts, each begun by a turn
abbrev pub then_parts : Held → List (List ℕ) → Held
then_parts held [] = held
then_parts held (part ∷ parts) = then_parts (added (turned held) part) parts

-- with these parts, the first of them behind what is under way
abbrev pub with_parts : Held → List (List ℕ) → Held
with_parts held [] = held
with_parts held (part ∷ parts) = then_parts (added held part) parts

-- The parts that were finished since, and then the one under way. The first of all these is told without the bytes
-- that were under way before.
abbrev pub WasGiven : Option Held → Option Held → List (List ℕ) → Type 0
WasGiven before after parts = Becomes before after (λ held. with_parts held parts)

-- these are the first of the parts, and the last of these is a front of its part
abbrev pub IsFront : List (List ℕ) → List (List ℕ) → Type 0
IsFront [] parts = Unit {0}
IsFront (given ∷ []) [] = given ≡ []
IsFront (given ∷ []) (part ∷ parts) = (rest : List ℕ) × (part ≡ given ++ rest)
IsFront (given ∷ next ∷ more) [] = ⊥
IsFront (given ∷ next ∷ more) (part ∷ parts) = (given ≡ part) × IsFront (next ∷ more) parts

-- The shelf was given the parts at Ok, and else a front of them.
pub record Delivers {T E : Type 0} (before after : Option Held) (parts : List (List ℕ)) (result : Result T E) : Type 0 where
  pub given : List (List ℕ)
  pub front : IsFront given parts
  pub was : WasGiven before after given
  pub whole : OnOk result (given ≡ parts)
