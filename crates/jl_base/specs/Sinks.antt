-- What a sink or a shelf tells of what it was given.
use Rattle.std.specs.Prelude.{◌≡◌, ℕ, ◌≤◌, ◌<◌, List, [], ◌∷◌, ◌++◌, length, Option, Some, None, Result, IfOk, OnOk, MatchResult}

-- the parts that are finished, and the bytes of the part under way
pub record Held : Type 0 where
  pub finished : List (List ℕ)
  pub under_way : List ℕ

-- with these bytes at the end of the part under way
abbrev pub added : Held → List ℕ → Held
added held bytes = record { finished = held.finished; under_way = held.under_way ++ bytes }

-- with the part under way finished, and an empty one begun
abbrev pub turned : Held → Held
turned held = record { finished = held.finished ++ held.under_way ∷ []; under_way = [] }

-- where it is told, what was held became this
abbrev pub Becomes : Option Held → Option Held → (Held → Held) → Type 0
Becomes None after change = Unit {0}
Becomes (Some held) None change = ⊥
Becomes (Some held) (Some kept) change = kept ≡ change held

abbrev pub Adds : Option Held → Option Held → List ℕ → Type 0
Adds before after bytes = Becomes before after (λ held. added held bytes)

abbrev pub Stays : Option Held → Option Held → Type 0
Stays before after = Becomes before after (λ held. held)

-- the part under way was finished, unless the call failed
abbrev pub Turns : {T E : Type 0} → Option Held → Option Held → Result T E → Type 0
Turns before after result = MatchResult result (λ _. Becomes before after turned) (λ _. Stays before after)

-- at Ok(n) no more than the piece, and some of it unless it is empty
abbrev pub TakesSome : {E : Type 0} → Result ℕ E → List ℕ → Type 0
TakesSome result piece = IfOk result (λ n. (n ≤ length piece) × (0 < length piece → 0 < n))

-- The piece was added at Ok, and else a front of it.
pub record AddsFront {T E : Type 0} (before after : Option Held) (piece : List ℕ) (result : Result T E) : Type 0 where
  pub done : List ℕ
  pub rest : List ℕ
  pub split : piece ≡ done ++ rest
  pub adds : Adds before after done
  pub whole : OnOk result (rest ≡ [])
