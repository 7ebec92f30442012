-- What the program does before it tells how it ended, by how it ended.
use Rattle.std.specs.Prelude.{◌≡◌, ◌↔◌, ℕ, ◌+◌, ◌<◌, ◌≤◌, ◌⊎◌, List, Option, None, Result, Ok, Err}
use Rattle.jl_base.specs.Causes.{Rose}
use Rattle.jl_base.specs.Sources.{Told}
use Rattle.jl_base.specs.SourceLists.{ReadsEach, RoseAt, SteadyEach, total}
use Rattle.jl_base.specs.Sinks.{Held}
use Rattle.jl_base.specs.Parts.{WasGiven, IsFront}
use Rattle.jl_text.specs.declared.notice.Notice.{Notice}
use Rattle.jl_text.specs.declared.notice.Notice.TheVariants as notice
use Rattle.jl_words.specs.declared.command.Job.{Job}
use Rattle.jl_top.specs.Goals.{Goal, Done, Malformed}
use Rattle.jl_base.specs.Limits.{most_bytes}
use Rattle.jl_top.specs.Serve.{Reaches, Begins, AllSteady}

-- the exit status that a notice goes with
abbrev pub status_of : Notice → ℕ
status_of (notice.Malformed file fault) = 1
status_of notice.Usage = 2
status_of (notice.ReadFault file) = 3
status_of notice.WriteFault = 4
status_of notice.NoMemory = 5
status_of notice.TooLong = 6
status_of (notice.TooWide item) = 8

-- why the writing of a goal's parts ended, by what was given of them
abbrev pub IsMet : {T : Type 0} → Goal → List (List ℕ) → ℕ → ℕ → Result T Notice → Type 0
IsMet goal given faults faults' (Ok x) = (given ≡ goal.parts) × (goal.ending ≡ Done) × (faults' ≡ faults)
IsMet goal given faults faults' (Err (notice.Malformed file fault)) = (given ≡ goal.parts) × (goal.ending ≡ Malformed file fault) × (faults' ≡ faults)
IsMet goal given faults faults' (Err notice.WriteFault) = Rose faults faults'
IsMet goal given faults faults' (Err notice.NoMemory) = faults' ≡ faults
IsMet goal given faults faults' (Err other) = ⊥

-- The shelf was given a prefix of the goal's parts.
pub record Meets {T : Type 0} (goal : Goal) (held held' : Option Held) (faults faults' : ℕ) (result : Result T Notice) : Type 0 where
  pub given : List (List ℕ)
  pub gives : WasGiven held held' given
  pub front : IsFront given goal.parts
  pub later : faults ≤ faults'
  pub cause : IsMet goal given faults faults' result

-- why the program ended, and which counts of faults stayed
abbrev pub IsCaused : {S K T : Type 0} → (S → Told) → Option Job → List S → List S → (K → Option Held) → (K → ℕ) → K → K → Result T Notice → Type 0
IsCaused told asked before after held faults out out' (Ok x) = Reaches told held asked before after out out' Done × AllSteady told faults before after out out'
IsCaused told asked before after held faults out out' (Err (notice.Malformed file fault)) = Reaches told held asked before after out out' (Malformed file fault) × AllSteady told faults before after out out'
IsCaused told asked before after held faults out out' (Err notice.Usage) = (after ≡ before) × (out' ≡ out)
IsCaused told asked before after held faults out out' (Err (notice.ReadFault file)) = (out' ≡ out) × (n : ℕ) × (file ≡ n + 1) × RoseAt told before after n
IsCaused told asked before after held faults out out' (Err notice.WriteFault) = Begins told held asked before after out out' × Rose (faults out) (faults out') × SteadyEach told before after
IsCaused told asked before after held faults out out' (Err notice.NoMemory) = ((out' ≡ out) ⊎ Begins told held asked before after out out') × AllSteady told faults before after out out'
IsCaused told asked before after held faults out out' (Err notice.TooLong) = (out' ≡ out) × SteadyEach told before after
IsCaused told asked before after held faults out out' (Err (notice.TooWide item)) = ⊥

-- These bytes were read of the sources.
pub record Runs {S K T : Type 0} (told : S → Told) (asked : Option Job) (before after : List S) (held : K → Option Held) (faults : K → ℕ) (out out' : K) (result : Result T Notice) : Type 0 where
  pub read : List (List ℕ)
  pub each : ReadsEach told before after read
  pub later : faults out ≤ faults out'
  pub usage : (result ≡ Err notice.Usage) ↔ (asked ≡ None)
  pub too_long : (result ≡ Err notice.TooLong) ↔ (most_bytes < total read)
  pub cause : IsCaused told asked before after held faults out out' result
