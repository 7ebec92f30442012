-- Taking bytes from the front of a list: what is left after them, or None where they don't stand there.
use Rattle.std.specs.Prelude.{ℕ, zero, suc, ◌-◌, Bool, false, ◌==◌, List, [], ◌∷◌, Option, Some, None, if◌then◌else◌}

-- one part, and then another one
infixl 10 ◌>>=◌
abbrev pub ◌>>=◌ : {A B : Type 0} → Option A → (A → Option B) → Option B
(Some x) >>= f = f x
None >>= f = None

-- what follows a beginning that stands there, or else something without it
abbrev pub begun : {A B : Type 0} → Option A → (A → B) → B → B
begun (Some x) go other = go x
begun None go other = other

-- whether a byte of a class stands in front
abbrev pub starts : (ℕ → Bool) → List ℕ → Bool
starts class [] = false
starts class (b ∷ rest) = class b

-- this byte
abbrev pub byte : ℕ → List ℕ → Option (List ℕ)
byte wanted [] = None
byte wanted (b ∷ rest) = if b == wanted then Some rest else None

-- this byte twice
unfoldable pub twice : ℕ → List ℕ → Option (List ℕ)
twice wanted text = byte wanted text >>= byte wanted

-- the longest run of bytes, each tested with those after it
unfoldable pub past : (List ℕ → Bool) → List ℕ → List ℕ
past test [] = []
past test (b ∷ rest) = if test (b ∷ rest) then past test rest else b ∷ rest

-- Characters one after another up to a closing byte, each as long as it is found to be. Bytes of a character that was
-- found are skipped first.
unfoldable pub closed : (List ℕ → Option ℕ) → ℕ → ℕ → List ℕ → Option (List ℕ)
closed size close skip [] = None
closed size close (suc skip) (b ∷ rest) = closed size close skip rest
closed size close zero (b ∷ rest) = if b == close then Some rest else (size (b ∷ rest) >>= λ n. closed size close (n - 1) rest)
