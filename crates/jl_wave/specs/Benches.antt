-- How far a worker has come in a wave.
use Rattle.std.specs.Prelude.{◌≡◌, ℕ, ◌+◌, ◌<◌, ◌≤◌, nat_le, Bool, false, List, Option, Some, None, Ok, Err, All}
use Rattle.jl_base.specs.declared.place.Fault.{Fault}
use Rattle.jl_state.specs.States.{State}
use Rattle.jl_scan.specs.Fields.{Field, IsStateOf, after, seen}
use Rattle.jl_scan.specs.Reaching.{IsKnown}
use Rattle.jl_scan.specs.Walk.{walk}
use Rattle.jl_wave.specs.Waves.{IsDead, IsFine}
use Rattle.jl_wave.specs.declared.bench.Bench.{Bench}

-- Its state is that before the run at which it stands, unless a fault lies before it; and its pass is of the wave's cells.
pub record IsBench {F T : Type 0} (w : Field) (start : State) (n : ℕ) (cells : List ℕ) (b : Bench F T) : Type 0 where
  pub pass : b.pass.cells ≡ cells
  pub within : b.at ≤ n
  pub state : b.dead ≡ None → IsStateOf w b.state × (after w 0 b.at start ≡ Ok (seen w b.state))
  pub dead : (d : ℕ) → b.dead ≡ Some d → (d ≤ n) × IsDead w start d

-- a fault is known to lie before this run
abbrev pub is_dead : Option ℕ → ℕ → Bool
is_dead None run = false
is_dead (Some d) run = nat_le d run

-- after a run that ends so, a fault lies before the next one
abbrev pub dead_after : ℕ → Option Fault → Option ℕ
dead_after run None = None
dead_after run (Some f) = Some (run + 1)

-- the cells of the blocks on the way to run k are known
abbrev pub KnowsWay : {F T : Type 0} → ℕ → Bench F T → ℕ → Type 0
KnowsWay n b k = All (IsKnown n b.pass.known) (walk 0 k)

-- n runs were gone over, up to this fault if there was one
abbrev pub Ran : Field → State → ℕ → Option Fault → Type 0
Ran w start n None = (k : ℕ) → k < n → IsFine w start k
Ran w start n (Some f) = after w 0 n start ≡ Err f
