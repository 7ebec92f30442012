-- The code's places in a line as what is left of it.
use Rattle.std.specs.Prelude.{◌≡◌, ℕ, List, drop, Option, Some, None}

-- the place after a part, where the definition takes that part
abbrev pub Leaves : List ℕ → Option ℕ → Option (List ℕ) → Type 0
Leaves bytes (Some end) said = said ≡ Some (drop end bytes)
Leaves bytes None said = said ≡ None
