-- What is made of a run's items, and what the pieces of a wave's runs come to.
use Rattle.std.specs.Prelude.{◌≡◌, ℕ, ◌+◌, List, [], ◌∷◌, MatchOption, Ok, Err}
use Rattle.std.specs.List.{flat_map}
use Rattle.jl_base.specs.Results.{Reading}
use Rattle.jl_base.specs.Terms.{Item}
use Rattle.jl_base.specs.declared.place.Fault.{Fault}
use Rattle.jl_drive.specs.declared.piece.Piece.{Piece}
use Rattle.jl_state.specs.Running.{run_on}
use Rattle.jl_state.specs.States.{State}
use Rattle.jl_scan.specs.Fields.{Field, after, rows}
use Rattle.jl_lines.specs.Counts.{none_counted, with_counted}
use Rattle.jl_lines.specs.Writings.{written}
use Rattle.jl_lines.specs.declared.decoding.Counts.{Counts}
use Rattle.jl_lines.specs.declared.writing.Writing.{Writing}
use Rattle.jl_decode.specs.declared.piece.Written.{Written}

-- what is written of them, all on one page, and how many they are
abbrev pub IsWritten : Writing → Reading Item Fault → Written → Type 0
IsWritten writing said made = (made.page.lines ≡ flat_map (written writing) said.items) × (made.counts ≡ with_counted none_counted said.items)

-- all lines of some pieces, one piece after another
abbrev pub lines_of : List (Piece Written) → List ℕ
lines_of pieces = flat_map (λ p. p.made.page.lines) pieces

-- these counts and others
abbrev pub both_counted : Counts → Counts → Counts
both_counted a b = record { statements = a.statements + b.statements; namespaces = a.namespaces + b.namespaces }

-- these counts with those of some pieces
abbrev pub counts_with : Counts → List (Piece Written) → Counts
counts_with counts [] = counts
counts_with counts (p ∷ ps) = counts_with (both_counted counts p.made.counts) ps

-- The piece of run k, written from the state that the runs before it lead to. Either none up to it has a fault, or it has
-- the piece's.
pub record IsPieceOf (writing : Writing) (w : Field) (s : State) (k : ℕ) (p : Piece Written) : Type 0 where
  pub stand : State
  pub came : after w 0 k s ≡ Ok stand
  pub made : IsWritten writing (run_on w.options stand (rows w k (k + 1))) p.made
  pub ends : MatchOption p.fault ((t : State) × (after w k (k + 1) stand ≡ Ok t)) (λ f. after w k (k + 1) stand ≡ Err f)

-- those of run k and the runs after it, in order
abbrev pub ArePiecesFrom : Writing → Field → State → ℕ → List (Piece Written) → Type 0
ArePiecesFrom writing w s k [] = Unit {0}
ArePiecesFrom writing w s k (p ∷ ps) = IsPieceOf writing w s k p × ArePiecesFrom writing w s (k + 1) ps
