-- What is made of items, and how a wave of them ends.
use Rattle.std.specs.Prelude.{◌≡◌, ℕ, List, Option, Some, None, Ok, Err}
use Rattle.jl_base.specs.Results.{Reading}
use Rattle.jl_base.specs.Terms.{Item}
use Rattle.jl_base.specs.declared.place.Fault.{Fault}
use Rattle.jl_scan.specs.Fields.{Field, IsStateOf, after, seen}
use Rattle.jl_state.specs.declared.state.State.{State}

-- this may be made of the items that stand before the fault, or of all where there is none
abbrev pub of_items : {O : Type 0} → (List Item → O → Type 0) → Reading Item Fault → O → Type 0
of_items makes said made = makes said.items made

-- How n runs end after the state s: none has a fault, and t is the state after them; or there is no state, and this is
-- their first fault.
abbrev pub EndsWave : Field → ℕ → State → Option State → Option Fault → Type 0
EndsWave w n s (Some t) None = IsStateOf w t × (after w 0 n (seen w s) ≡ Ok (seen w t))
EndsWave w n s None (Some f) = after w 0 n (seen w s) ≡ Err f
EndsWave w n s (Some t) (Some f) = ⊥
EndsWave w n s None None = ⊥
