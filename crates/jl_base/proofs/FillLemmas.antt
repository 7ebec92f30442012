-- A space that was filled to a source's end.
use Rattle.std.proofs.Common.{◌≡◌, ℕ, ◌≤◌, List, ◌++◌, length, Ok, sym, ◌∙◌, ap, append-nil, inl, inr}
use Rattle.std.proofs.lemmas.Bool.{cases_lt}
use Rattle.jl_base.specs.Sources.{Told}
use Rattle.jl_base.specs.Filling.{Fills}

module _ {T : Type 0} (limit : ℕ) (before after : Told) (old new : List ℕ) (x : T) (filled : Fills limit before after old new (Ok x)) where
  -- what was read stands behind the old bytes
  pub filled_new : new ≡ old ++ filled.bytes
  filled_new =
      filled.appended
      ∙ ap (λ (bytes : List ℕ). old ++ bytes) (sym (filled.split ∙ ap (λ (lost : List ℕ). filled.kept ++ lost) filled.whole ∙ append-nil filled.kept))

  pub filled_within : length filled.bytes ≤ limit
  filled_within = elim (cases_lt limit (length filled.bytes)) [ inl more ↦ absurd (let never = filled.too_long.1 more in (cc)) | inr within ↦ within ]
