-- What the writing of a file's lines leaves, and why it ended.
use Rattle.std.specs.Prelude.{◌≡◌, ℕ, ◌≤◌, List, [], ◌++◌, Option, Some, None}
use Rattle.jl_base.specs.Results.{Reading}
use Rattle.jl_base.specs.Terms.{Item}
use Rattle.jl_base.specs.Causes.{Rose}
use Rattle.jl_base.specs.Sinks.{Held, Adds}
use Rattle.jl_base.specs.declared.place.Fault.{Fault}
use Rattle.jl_text.specs.Line.{text}
use Rattle.jl_decode.specs.declared.write.Ended.{Ended}
use Rattle.jl_decode.specs.declared.write.Ended.TheVariants as ended

-- why it ended, with the lines that were left
abbrev pub IsEndedBy : Reading Item Fault → List ℕ → ℕ → ℕ → Ended → Type 0
IsEndedBy said left faults faults' ended.Whole = (said.fault ≡ None) × (left ≡ [])
IsEndedBy said left faults faults' (ended.Malformed fault) = (said.fault ≡ Some fault) × (left ≡ [])
IsEndedBy said left faults faults' ended.WriteFault = Rose faults faults'
IsEndedBy said left faults faults' ended.NoMemory = Unit {0}

-- the sink's count of faults stayed, but where it is told that the sink failed
abbrev pub IsSteady : ℕ → ℕ → Ended → Type 0
IsSteady faults faults' ended.Whole = faults' ≡ faults
IsSteady faults faults' (ended.Malformed fault) = faults' ≡ faults
IsSteady faults faults' ended.WriteFault = Unit {0}
IsSteady faults faults' ended.NoMemory = faults' ≡ faults

-- The sink was given a prefix of the lines of what a file states: all of them at its end or at its first fault, less only
-- where the sink failed or memory wasn't found.
pub record WritesLines (said : Reading Item Fault) (held held' : Option Held) (faults faults' : ℕ) (ended : Ended) : Type 0 where
  pub given : List ℕ
  pub left : List ℕ
  pub lines : text said.items ≡ given ++ left
  pub adds : Adds held held' given
  pub later : faults ≤ faults'
  pub steady : IsSteady faults faults' ended
  pub cause : IsEndedBy said left faults faults' ended
