-- What reading all inputs leaves.
use Rattle.std.specs.Prelude.{◌≡◌, ℕ, ◌+◌, ◌<◌, ◌≤◌, List, Result, Ok, Err}
use Rattle.jl_base.specs.Sources.{Told}
use Rattle.jl_base.specs.SourceLists.{ReadsEach, EndsEach, RoseAt, SteadyEach, total}
use Rattle.jl_text.specs.declared.notice.Notice.{Notice}
use Rattle.jl_text.specs.declared.notice.Notice.TheVariants.{ReadFault, NoMemory, TooLong}

-- the bytes of all sources, or why they weren't had; files are counted from 1
abbrev pub IsGathered : {S : Type 0} → (S → Told) → ℕ → List S → List S → List (List ℕ) → Result (List (List ℕ)) Notice → Type 0
IsGathered told limit before after read (Ok files) = (files ≡ read) × EndsEach told after × (total read ≤ limit) × SteadyEach told before after
IsGathered told limit before after read (Err (ReadFault file)) = (n : ℕ) × (file ≡ n + 1) × RoseAt told before after n × (total read ≤ limit)
IsGathered told limit before after read (Err TooLong) = (limit < total read) × SteadyEach told before after
IsGathered told limit before after read (Err NoMemory) = (total read ≤ limit) × SteadyEach told before after
IsGathered told limit before after read (Err other) = ⊥

-- These bytes were read of the sources, in order.
pub record Gathers {S : Type 0} (told : S → Told) (limit : ℕ) (before after : List S) (result : Result (List (List ℕ)) Notice) : Type 0 where
  pub read : List (List ℕ)
  pub each : ReadsEach told before after read
  pub cause : IsGathered told limit before after read result
