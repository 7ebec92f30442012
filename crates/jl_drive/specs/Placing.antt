-- Pieces in the places of their runs.
use Rattle.std.specs.Prelude.{◌≡◌, ℕ, ◌<◌, ◌⊎◌, List, Option, None, IfSome, is_some, true, slice_index_or}
use Rattle.jl_base.specs.declared.place.Fault.{Fault}
use Rattle.jl_drive.specs.declared.piece.Piece.{Piece}
use Rattle.jl_drive.specs.Pieces.{Skipped, IsPiece, IsOf}

-- a piece in the place of its run
abbrev pub IsPlaced : {O M : Type 0} → (O → ℕ → Type 0) → (ℕ → M → Type 0) → (ℕ → Type 0) → (ℕ → Fault → Type 0) → List O → ℕ → Piece M → Type 0
IsPlaced knows makes fine faulty owns k p = (p.run ≡ k) × IsPiece makes fine faulty p × IsOf knows owns p

-- what stands in a place is right there
abbrev pub IsRight : {X : Type 0} → (ℕ → X → Type 0) → List (Option X) → Type 0
IsRight Right slots = (k : ℕ) → IfSome (slice_index_or slots k None) (λ p. Right k p)

abbrev pub IsFilled : {X : Type 0} → List (Option X) → ℕ → Type 0
IsFilled slots k = is_some (slice_index_or slots k None) ≡ true

-- each place is filled, or its run was left out
abbrev pub IsCovered : {X : Type 0} → (ℕ → Type 0) → ℕ → List (Option X) → Type 0
IsCovered fine n slots = (k : ℕ) → k < n → IsFilled slots k ⊎ Skipped fine k
