-- The runs of a wave, from the state before them.
use Rattle.std.specs.Prelude.{◌≡◌, ℕ, ◌+◌, ◌<◌, List, Option, Some, None, Result, Ok, Err, All}
use Rattle.jl_base.specs.Results.{Reading}
use Rattle.jl_base.specs.Terms.{Item}
use Rattle.jl_base.specs.declared.place.Fault.{Fault}
use Rattle.jl_state.specs.Running.{run_on}
use Rattle.jl_state.specs.States.{State}
use Rattle.jl_state.specs.declared.state.State as code
use Rattle.jl_drive.specs.Pieces.{AreInOrder, IsPiece}
use Rattle.jl_drive.specs.declared.piece.Piece.{Piece}
use Rattle.jl_scan.specs.Fields.{Field, IsStateOf, after, rows, seen}

module _ (w : Field) (start : State) where
  -- neither run k nor one before it has a fault
  abbrev pub IsFine : ℕ → Type 0
  IsFine k = (t : State) × (after w 0 (k + 1) start ≡ Ok t)

  -- run k has this fault, and none before it has one
  abbrev pub IsFaulty : ℕ → Fault → Type 0
  IsFaulty k f = (s : State) × (after w 0 k start ≡ Ok s) × (after w k (k + 1) s ≡ Err f)

  -- some run before run k has a fault
  abbrev pub IsDead : ℕ → Type 0
  IsDead k = (f : Fault) × (after w 0 k start ≡ Err f)

  -- this may be made of what run k states, from the state that the runs before it lead to
  abbrev pub IsMade : {M : Type 0} → (Reading Item Fault → M → Type 0) → ℕ → M → Type 0
  IsMade makes k m = (s : State) × (after w 0 k start ≡ Ok s) × makes (run_on w.options s (rows w k (k + 1))) m

  -- The pieces of n runs, in order: of all, none of which has a fault, or up to and with the first that has one. Each is
  -- made of its run by one of so many workers.
  pub record AreMade {M : Type 0} (makes : Reading Item Fault → M → Type 0) (n count : ℕ) (pieces : List (Piece M)) (fault : Option Fault) : Type 0 where
    pub order : AreInOrder n pieces fault
    pub each : All (IsPiece (IsMade makes) IsFine IsFaulty) pieces
    pub workers : All (λ p. p.worker < count) pieces

-- How n runs end after the state s: with t as the state after them, or with their first fault.
abbrev pub Leaves : Field → ℕ → code.State → code.State → Option Fault → Type 0
Leaves w n s t None = IsStateOf w t × (after w 0 n (seen w s) ≡ Ok (seen w t))
Leaves w n s t (Some f) = after w 0 n (seen w s) ≡ Err f
