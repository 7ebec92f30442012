-- What holds of a board between any two steps, and what each step tells.
use Rattle.std.specs.Prelude.{◌≡◌, ℕ, ◌+◌, ◌-◌, ◌<◌, ◌≤◌, min, ◌⊎◌, List, [], ◌∷◌, ◌++◌, All, Contains, count_by, sum_by, nat_le}
use Rattle.atomic_table.specs.Table.{State, Me, Step}
use Rattle.jl_claim.specs.Numbers.{times, once_below, least_of}
use Rattle.jl_claim.specs.declared.view.View.{View}

-- how many numbers at or above the bound stand in the list
abbrev pub count_above : ℕ → List ℕ → ℕ
count_above bound xs = count_by (λ x. nat_le bound x) xs

-- the least of the bound and of all numbers that were lowered
abbrev pub least_lowered : ℕ → List View → ℕ
least_lowered bound [] = bound
least_lowered bound (v ∷ vs) = min (least_of bound v.lowered) (least_lowered bound vs)

-- the view of a seat that was joined with another
abbrev pub spent : View
spent = record { bound = 0; drawn = []; lowered = []; seen = 0; seats = 0; room = 0 }

-- The view of a seat, at a board of this bound whose second word is low.
pub record Sits (bound low : ℕ) (v : View) : Type 0 where
  -- what it lowered is below the bound, and it drew that itself
  pub lowered : All (λ x. (x < bound) × Contains v.drawn x) v.lowered
  -- it drew no more numbers at or above the bound than there are seats in it
  pub above : count_above bound v.drawn ≤ v.seats
  pub seated : 1 ≤ v.seats
  -- what it saw is no less than the second word
  pub seen : low ≤ v.seen
  pub same_bound : v.bound ≡ bound

-- a view is of a seat, or is spent and counts for nothing
abbrev pub Stands : ℕ → ℕ → View → Type 0
Stands bound low v = Sits bound low v ⊎ (v ≡ spent)

-- The rule of a board: its words are next, the number to be drawn next, and low, the least that was lowered.
pub record Rule (bound next low : ℕ) (views : List View) : Type 0 where
  -- each number below the first word was drawn by one seat, once, and no other number was drawn
  pub drawn : (x : ℕ) → sum_by (λ v. times x v.drawn) views ≡ once_below x next
  -- the second word is the least of the bound and of all that was lowered
  pub least : low ≡ least_lowered bound views
  pub each : All (Stands bound low) views
  -- the seats and the room for more are 64
  pub seats : sum_by (λ v. v.seats + v.room) views ≡ 64

-- the two words of a table, and its views, keep the rule
abbrev pub Holds : {S : Type 0} → ℕ → State S View → Type 0
Holds bound s = (next : ℕ) × (low : ℕ) × (s.words ≡ next ∷ low ∷ []) × Rule bound next low s.views

-- the view of a seat that drew nothing yet
abbrev pub new_view : ℕ → ℕ → View
new_view bound room = record { bound = bound; drawn = []; lowered = []; seen = bound; seats = 1; room = room }

-- a view after its seat drew a number
abbrev pub with_drawn : View → ℕ → View
with_drawn v n = record v { drawn = v.drawn ++ n ∷ [] }

-- after it saw a number as the least
abbrev pub with_seen : View → ℕ → View
with_seen v n = record v { seen = n }

-- after it lowered a number
abbrev pub with_lowered : View → ℕ → View
with_lowered v n = record v { lowered = v.lowered ++ n ∷ [] }

-- after a seat was split from it
abbrev pub left_of : View → View
left_of v = record v { room = v.room - 1 }

-- two views as one seat's
abbrev pub both_of : View → View → View
both_of v w = record v { drawn = v.drawn ++ w.drawn; lowered = v.lowered ++ w.lowered; seen = min v.seen w.seen; seats = v.seats + w.seats; room = v.room + w.room }

-- the number found was drawn, and is above all that the seat drew before
abbrev pub Claims : {S : Type 0} → Step S → Me S View → ℕ → Me S View → Type 0
Claims s v n w = (w ≡ (with_drawn v.0 n, v.1)) × All (λ x. x < n) v.0.drawn

-- the number found was seen, and is at most the bound, what was seen before, and each number that the seat lowered
abbrev pub Sees : {S : Type 0} → Step S → Me S View → ℕ → Me S View → Type 0
Sees s v n w = (w ≡ (with_seen v.0 n, v.1)) × (n ≤ v.0.bound) × (n ≤ v.0.seen) × All (λ x. n ≤ x) v.0.lowered

-- the number of the step was lowered
abbrev pub Lowers : {S : Type 0} → Step S → Me S View → ℕ → Me S View → Type 0
Lowers s v n w = w ≡ (with_lowered v.0 s.first, v.1)
