-- What a list of sources tells, place by place.
use Rattle.std.specs.Prelude.{◌≡◌, ℕ, zero, suc, ◌+◌, List, [], ◌∷◌, length, Some}
use Rattle.std.specs.Io.KnownBytes.{IsAtEnd}
use Rattle.jl_base.specs.Causes.{Rose}
use Rattle.jl_base.specs.Sources.{Told, Reads}

-- of each source these bytes were read
abbrev pub ReadsEach : {S : Type 0} → (S → Told) → List S → List S → List (List ℕ) → Type 0
ReadsEach told [] [] [] = Unit {0}
ReadsEach told (before ∷ befores) (after ∷ afters) (bytes ∷ reads) = Reads (told before) (told after) bytes × ReadsEach told befores afters reads
ReadsEach told befores afters reads = ⊥

-- each source is at its end
abbrev pub EndsEach : {S : Type 0} → (S → Told) → List S → Type 0
EndsEach told [] = Unit {0}
EndsEach told (source ∷ sources) = IsAtEnd (told source).left × EndsEach told sources

-- each source tells that these bytes are left
abbrev pub LeftEach : {S : Type 0} → (S → Told) → List S → List (List ℕ) → Type 0
LeftEach told [] [] = Unit {0}
LeftEach told (source ∷ sources) (left ∷ lefts) = ((told source).left ≡ Some left) × LeftEach told sources lefts
LeftEach told sources lefts = ⊥

-- the count of faults rose at the source that has n before it
abbrev pub RoseAt : {S : Type 0} → (S → Told) → List S → List S → ℕ → Type 0
RoseAt told (before ∷ befores) (after ∷ afters) zero = Rose (told before).faults (told after).faults
RoseAt told (before ∷ befores) (after ∷ afters) (suc n) = RoseAt told befores afters n
RoseAt told befores afters n = ⊥

-- the count of faults of each source stayed
abbrev pub SteadyEach : {S : Type 0} → (S → Told) → List S → List S → Type 0
SteadyEach told [] [] = Unit {0}
SteadyEach told (before ∷ befores) (after ∷ afters) = ((told after).faults ≡ (told before).faults) × SteadyEach told befores afters
SteadyEach told befores afters = ⊥

-- how many bytes there are in all
abbrev pub total : List (List ℕ) → ℕ
total [] = 0
total (bytes ∷ reads) = length bytes + total reads
