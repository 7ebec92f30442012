-- What a caller knows of cells that are written once.
use Rattle.std.specs.Prelude.{◌≡◌, ℕ, ◌+◌, List, [], ◌∷◌, Option, Some, None, IfSome, map, refl}
use Rattle.std.specs.Ordering.{nat_cmp}
use Rattle.std.specs.Coded.{Coded, code_by, coded×, coded_ℕ, coded_list, coded_option}
use Rattle.std.specs.FinMap.{FinMap, code, empty, get, insert}

-- Of one cell: which it is, by its name, and its value, where that was seen.
pub record Seen (X : Type 0) : Type 0 where
  pub cell : ℕ
  pub value : Option X

-- Of a row of cells: which they are, and the values that were seen, by the numbers of their cells.
pub record Knowledge (X : Type 0) : Type 0 where
  pub cells : List ℕ
  pub known : FinMap nat_cmp X

-- x is seen, and is the value that was seen before, if one was
abbrev pub Sees : {X : Type 0} → Seen X → X → Seen X → Type 0
Sees old x new = IfSome old.value (λ y. y ≡ x) × (new ≡ record old { value = Some x })

-- two that have seen a value have seen one value
abbrev pub AreOne : {X : Type 0} → Option X → Option X → Type 0
AreOne {X} a b = (x y : X) → a ≡ Some x → b ≡ Some y → x ≡ y

-- what is known once x was seen in the cell i
abbrev pub learned : {X : Type 0} → Knowledge X → ℕ → X → Knowledge X
learned old i x = record old { known = insert old.known i x }

-- x is known as the value of the cell i from now on, and is the value that was known before, if one was
abbrev pub Learns : {X : Type 0} → Knowledge X → ℕ → X → Knowledge X → Type 0
Learns old i x new = IfSome (get old.known i) (λ y. y ≡ x) × (new ≡ learned old i x)

-- what was known stays known, with the values that it had
abbrev pub Keeps : {X : Type 0} → Knowledge X → Knowledge X → Type 0
Keeps {X} old new = (i : ℕ) (x : X) → get old.known i ≡ Some x → get new.known i ≡ Some x

-- where both know a cell, they know one value
abbrev pub Meet : {X : Type 0} → Knowledge X → Knowledge X → Type 0
Meet a b = (i : ℕ) → AreOne (get a.known i) (get b.known i)

-- the values of cells that are numbered from k on
abbrev pub known_from : {X : Type 0} → ℕ → List (Option X) → FinMap nat_cmp X
known_from k [] = empty
known_from k (None ∷ xs) = known_from (k + 1) xs
known_from k (Some x ∷ xs) = insert (known_from (k + 1) xs) k x

-- what is known of a row, from what was seen of each cell
abbrev pub knowledge_of : {X : Type 0} → List (Seen X) → Knowledge X
knowledge_of seen = record { cells = map (λ s. s.cell) seen; known = known_from 0 (map (λ s. s.value) seen) }

abbrev pub seen_coded : {X : Type 0} → Coded X → Coded (Seen X)
seen_coded {X} x = code_by (ℕ × Option X) (coded× coded_ℕ (coded_option x)) (λ s. (s.cell, s.value)) (λ p. record { cell = p.0; value = p.1 }) (λ _. refl)

abbrev pub knowledge_coded : {X : Type 0} → Coded X → Coded (Knowledge X)
knowledge_coded {X} x =
    code_by
    (List ℕ × FinMap nat_cmp X)
    (coded× (coded_list coded_ℕ) (code coded_ℕ x))
    (λ k. (k.cells, k.known))
    (λ p. record { cells = p.0; known = p.1 })
    (λ _. refl)
