-- The pieces of a wave's runs.
use Rattle.std.specs.Prelude.{◌≡◌, ℕ, ◌<◌, List, [], ◌∷◌, ◌++◌, length, map, Option, Some, None, MatchOption, All, slice_index_or}
use Rattle.jl_base.specs.declared.place.Fault.{Fault}
use Rattle.jl_drive.specs.declared.piece.Piece.{Piece}

-- not all runs before this one are without a fault
abbrev pub Skipped : (ℕ → Type 0) → ℕ → Type 0
Skipped fine k = ((j : ℕ) → j < k → fine j) → ⊥

-- the run has no fault, or this one
abbrev pub EndsSo : (ℕ → Type 0) → (ℕ → Fault → Type 0) → ℕ → Option Fault → Type 0
EndsSo fine faulty k fault = MatchOption fault (fine k) (λ f. faulty k f)

pub record IsPiece {M : Type 0} (makes : ℕ → M → Type 0) (fine : ℕ → Type 0) (faulty : ℕ → Fault → Type 0) (p : Piece M) : Type 0 where
  pub made : makes p.run p.made
  pub ends : EndsSo fine faulty p.run p.fault

-- the worker of a piece knows the way to its run
pub record IsOf {O M : Type 0} (knows : O → ℕ → Type 0) (owns : List O) (p : Piece M) : Type 0 where
  pub worker : p.worker < length owns
  pub way : (d : O) → knows (slice_index_or owns p.worker d) p.run

abbrev pub runs_of : {M : Type 0} → List (Piece M) → List ℕ
runs_of ps = map (λ p. p.run) ps

-- The pieces are those of the runs in order, each once: of all n, none of which has a fault; or up to and with the first
-- that has one.
pub record AreInOrder {M : Type 0} (n : ℕ) (ps : List (Piece M)) (fault : Option Fault) : Type 0 where
  pub runs : (k : ℕ) (d : Piece M) → k < length ps → (slice_index_or ps k d).run ≡ k
  pub ends : MatchOption fault
      ((length ps ≡ n) × All (λ p. p.fault ≡ None) ps)
      (λ f. (before : List (Piece M)) × (last : Piece M) × (ps ≡ before ++ last ∷ []) × (length before < n) × All (λ p. p.fault ≡ None) before × (last.fault ≡ Some f))

pub record IsDriven {O M : Type 0} (Fits : O → Type 0) (knows : O → ℕ → Type 0) (makes : ℕ → M → Type 0) (fine : ℕ → Type 0) (faulty : ℕ → Fault → Type 0) (n count : ℕ) (owns : List O) (ps : List (Piece M)) (fault : Option Fault) : Type 0 where
  pub pieces : AreInOrder n ps fault
  pub each : All (IsPiece makes fine faulty) ps
  pub of : All (IsOf knows owns) ps
  pub workers : length owns ≡ count
  pub fits : All Fits owns
