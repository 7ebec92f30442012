-- When a varint is refused, by its bytes alone.
use Rattle.std.specs.Prelude.{◌≡◌, ℕ, ◌<◌, ◌≤◌, ◌↔◌, List, length, slice_index, Err}
use Rattle.jl_base.specs.declared.kind.Kind.TheVariants.{Truncated, BadVarint}
use Rattle.jl_wire.specs.Varint.{varint}

-- the first n bytes have the top bit set
abbrev pub AreContinued : ℕ → List ℕ → Type 0
AreContinued n bytes = (k : ℕ) → k < n → 128 ≤ slice_index bytes k

-- cut off: fewer than ten bytes, and each says that another one follows
abbrev pub IsCutOff : List ℕ → Type 0
IsCutOff bytes = (length bytes < 10) × AreContinued (length bytes) bytes

-- too large: nine bytes say that another one follows, and the tenth is above 1
abbrev pub IsTooLarge : List ℕ → Type 0
IsTooLarge bytes = (9 < length bytes) × AreContinued 9 bytes × (1 < slice_index bytes 9)

-- each refusal comes exactly so
pub record RefusesExactly (bytes : List ℕ) : Type 0 where
  pub cut_off : (varint bytes ≡ Err Truncated) ↔ IsCutOff bytes
  pub too_large : (varint bytes ≡ Err BadVarint) ↔ IsTooLarge bytes
