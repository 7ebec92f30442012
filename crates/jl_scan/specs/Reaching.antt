-- What is known of blocks, and what is reached.
use Rattle.std.specs.Prelude.{◌≡◌, ℕ, ◌+◌, Bool, false, List, [], ◌∷◌, ◌++◌, Option, Some, None, Ok, Err, All, IsSome}
use Rattle.std.specs.Ordering.{nat_cmp}
use Rattle.std.specs.FinMap.{FinMap, get}
use Rattle.jl_base.specs.declared.place.Fault.{Fault}
use Rattle.jl_state.specs.States.{State}
use Rattle.jl_state.specs.declared.state.State as code
use Rattle.jl_scan.specs.declared.numbers.At.{At}
use Rattle.jl_scan.specs.Blocks.{edge, Block, cell_of, begin_of, end_of}
use Rattle.jl_scan.specs.Walk.{walk}
use Rattle.jl_scan.specs.Fields.{Field, IsStateOf, after, is_of, seen}

-- what a pass knows of the cells of published values, each the two runs between which it is
abbrev pub Known : Type 0
Known = FinMap nat_cmp (ℕ × ℕ)

abbrev pub block_of : At → Block
block_of at = record { level = at.level; k = at.k }

-- of n runs: the value of a block's cell is known, and is of the block's runs
abbrev pub is_at_hand_of : ℕ → ℕ → Option (ℕ × ℕ) → Bool
is_at_hand_of l k None = false
is_at_hand_of l k (Some x) = is_of (edge l k) (edge l (k + 1)) x

abbrev pub is_at_hand : ℕ → Known → ℕ → ℕ → Bool
is_at_hand n known l k = is_at_hand_of l k (get known (cell_of n l k))

-- the block's cell is known
abbrev pub IsKnown : ℕ → Known → Block → Type 0
IsKnown n known b = IsSome (get known (cell_of n b.level b.k))

-- The runs from a to b have a fault after the state s, in the block `last` of the walk; the walk is known up to there.
pub record IsFaulty (w : Field) (n : ℕ) (known : Known) (a b : ℕ) (s : State) (fault : Fault) : Type 0 where
  pub done : List Block
  pub last : Block
  pub rest : List Block
  pub mid : State
  pub is_walk : walk a b ≡ done ++ last ∷ rest
  pub is_known : All (IsKnown n known) (done ++ last ∷ [])
  pub before_it : after w a (begin_of last) s ≡ Ok mid
  pub in_it : after w (begin_of last) (end_of last) mid ≡ Err fault

-- What a reach from a to b answers: no fault, with the state at b and the whole walk known; or the first fault.
abbrev pub Reaches : Field → ℕ → Known → ℕ → ℕ → code.State → code.State → Option Fault → Type 0
Reaches w n known a b s t None = IsStateOf w t × (after w a b (seen w s) ≡ Ok (seen w t)) × All (IsKnown n known) (walk a b)
Reaches w n known a b s t (Some fault) = (after w a b (seen w s) ≡ Err fault) × IsFaulty w n known a b (seen w s) fault
