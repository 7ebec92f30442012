-- What a write at a place of a page does to the page.
use Rattle.std.specs.Prelude.{◌≡◌, ℕ, List, ◌++◌, length, take, Option, Some, None}

-- a page has a text behind its first bytes, up to an end, and is as long as it was
pub record Placed (old new : List ℕ) (at : ℕ) (text : List ℕ) (end : ℕ) : Type 0 where
  pub bytes : take end new ≡ take at old ++ text
  pub front : take at new ≡ take at old
  pub size : length new ≡ length old

-- a text was placed; or it wasn't, and what stands before the place was left
abbrev pub Places : List ℕ → List ℕ → ℕ → List ℕ → Option ℕ → Type 0
Places old new at text (Some end) = Placed old new at text end
Places old new at text None = (take at new ≡ take at old) × (length new ≡ length old)
