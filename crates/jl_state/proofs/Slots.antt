-- Slots of a table, as they are kept and as they are seen.
use Rattle.std.proofs.Common.{◌≡◌, ℕ, ◌+◌, ◌<◌, zero, suc, List, ◌∷◌, length, map, set, replicate, Option, Some, None, refl, ap, sym, ◌∙◌, arith, ne_eqb, subst}
use Rattle.std.proofs.lemmas.List.{map-set, length-set, length-replicate}
use Rattle.jl_state.specs.declared.extent.Extent.{Extent}
use Rattle.jl_state.specs.Extents.{text_in, slot_seen, unfilled_len, IsFilled, AreSound}
use Rattle.jl_state.specs.Seen.{IsUnfilled}

-- a filled slot is seen as its text
pub filled_seen : (bytes : List ℕ) (e : Extent) (text : List ℕ) → text_in bytes e ≡ text → IsFilled e → slot_seen bytes e ≡ Some text
filled_seen bytes e text said filled = rw (ne_eqb e.len unfilled_len filled) (ap Some said)

pub entered_is : (bytes : List ℕ) (slots : List Extent) (id n : ℕ) (e : Extent) (text : List ℕ) → id ≡ n → id < length slots → text_in bytes e ≡ text → IsFilled e
    → (n < length slots) × (map (slot_seen bytes) (set slots id e) ≡ set (map (slot_seen bytes) slots) n (Some text)) × (id ≡ n) × (length (set slots id e) ≡ length slots)
entered_is bytes slots id n e text same fits said filled = (
  omega arith,
  map-set (slot_seen bytes) slots id e ∙ ap (λ (k : ℕ). set (map (slot_seen bytes) slots) k (slot_seen bytes e)) same ∙ ap (set (map (slot_seen bytes) slots) n) (filled_seen bytes e text said filled),
  same,
  length-set slots id e,
)

-- the slot that isn't filled, as the code has it
abbrev pub unfilled_slot : Extent
unfilled_slot = record { at = 0; len = 4294967295 }

seen_unfilled : (bytes : List ℕ) (n : ℕ) → map (slot_seen bytes) (replicate n unfilled_slot) ≡ replicate n None
seen_unfilled bytes zero = refl
seen_unfilled bytes (suc n) = ap (λ (xs : List (Option (List ℕ))). None ∷ xs) (seen_unfilled bytes n)

none_filled : (bytes : List ℕ) (n : ℕ) → AreSound bytes (replicate n unfilled_slot)
none_filled bytes zero id e lt at filled = absurd (omega arith)
none_filled bytes (suc n) zero e lt at filled = absurd (filled (sym (ap (λ (x : Extent). x.len) at)))
none_filled bytes (suc n) (suc id) e lt at filled = none_filled bytes n id e (omega arith) at filled

pub unfilled_is : (size : ℕ) (slots : List Extent) → slots ≡ replicate (size + 1) unfilled_slot → IsUnfilled size slots
unfilled_is size slots e = subst (IsUnfilled size) (sym e) (length-replicate (size + 1) unfilled_slot, (λ bytes. (seen_unfilled bytes (size + 1), none_filled bytes (size + 1))))

pub sound_in : (size : ℕ) (slots : List Extent) (bytes : List ℕ) → IsUnfilled size slots → AreSound bytes slots
sound_in size slots bytes h = (h.1 bytes).1
