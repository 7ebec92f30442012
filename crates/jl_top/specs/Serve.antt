-- What one call of the program leaves. Where the sources tell their bytes, the files are what they had left, and where the
-- shelf tells what it holds, what it was given is told by parts.
use Rattle.std.specs.Prelude.{◌≡◌, ℕ, ◌⊎◌, List, [], ◌++◌, Option, Some, nat_lt, if◌then◌else◌}
use Rattle.jl_base.specs.Causes.{Rose}
use Rattle.jl_base.specs.Sources.{Told}
use Rattle.jl_base.specs.SourceLists.{ReadsEach, EndsEach, RoseAt, SteadyEach, total}
use Rattle.jl_base.specs.Sinks.{Held, Adds}
use Rattle.jl_base.specs.Parts.{WasGiven, IsFront}
use Rattle.jl_words.specs.declared.command.Job.{Job}
use Rattle.jl_top.specs.Goals.{Ending, Done, Malformed, goal}
use Rattle.jl_base.specs.Limits.{most_bytes}

-- Every source was read to its end, the shelf was given exactly the parts of the job's goal, and the goal ends so.
pub record Reaches {S K : Type 0} (told : S → Told) (held : K → Option Held) (asked : Option Job) (before after : List S) (out out' : K) (ending : Ending) : Type 0 where
  pub job : Job
  pub asks : asked ≡ Some job
  pub files : List (List ℕ)
  pub reads : ReadsEach told before after files
  pub ends : EndsEach told after
  pub gives : WasGiven (held out) (held out') (goal job files).parts
  pub ending_is : (goal job files).ending ≡ ending

-- Every source was read to its end, and the shelf was given a prefix of the parts.
pub record Begins {S K : Type 0} (told : S → Told) (held : K → Option Held) (asked : Option Job) (before after : List S) (out out' : K) : Type 0 where
  pub job : Job
  pub asks : asked ≡ Some job
  pub files : List (List ℕ)
  pub reads : ReadsEach told before after files
  pub ends : EndsEach told after
  pub given : List (List ℕ)
  pub gives : WasGiven (held out) (held out') given
  pub front : IsFront given (goal job files).parts

-- The line was written to the error sink: the whole of it, unless its count of faults rose.
pub record Tells {E : Type 0} (held : E → Option Held) (faults : E → ℕ) (err err' : E) (line : List ℕ) : Type 0 where
  pub written : List ℕ
  pub rest : List ℕ
  pub split : line ≡ written ++ rest
  pub adds : Adds (held err) (held err') written
  pub whole : (rest ≡ []) ⊎ Rose (faults err) (faults err')

-- no source's count of faults rose, and the shelf's didn't either
abbrev pub NoneRose : {S K : Type 0} → (S → Told) → (K → ℕ) → List S → List S → K → K → Type 0
NoneRose told faults before after out out' = ((n : ℕ) → RoseAt told before after n → ⊥) × (Rose (faults out) (faults out') → ⊥)

-- each source's count of faults stayed, and the shelf's did too
abbrev pub AllSteady : {S K : Type 0} → (S → Told) → (K → ℕ) → List S → List S → K → K → Type 0
AllSteady told faults before after out out' = SteadyEach told before after × (faults out' ≡ faults out)

-- the status that an ending has
abbrev pub ending_status : Ending → ℕ
ending_status Done = 0
ending_status (Malformed file fault) = 1

-- the status of a job on these files, where no device fails and memory is found
abbrev pub status_on : Job → List (List ℕ) → ℕ
status_on job files = if nat_lt most_bytes (total files) then 6 else ending_status (goal job files).ending
