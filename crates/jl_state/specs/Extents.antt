-- Texts by where they lie, in eight bytes.
use Rattle.std.specs.Prelude.{◌≡◌, ◌≢◌, ℕ, ◌+◌, ◌-◌, ◌/◌, ◌%◌, ◌^◌, ◌<◌, ◌≤◌, ◌↔◌, ◌==◌, List, [], length, slice_range, slice_index_or, Option, Some, None, if◌then◌else◌}
use Rattle.jl_text.specs.Line.{iri_escaped, xsd_string}
use Rattle.jl_state.specs.declared.extent.Extent.{Extent}

-- where the text begins, and what is known of how it is written
abbrev pub place_of : Extent → ℕ
place_of e = e.at % 2 ^ 30

abbrev pub mark_of : Extent → ℕ
mark_of e = e.at / 2 ^ 30

abbrev pub text_in : List ℕ → Extent → List ℕ
text_in bytes e = slice_range bytes (place_of e) (place_of e + e.len)

-- the length of a slot that isn't filled
abbrev pub unfilled_len : ℕ
unfilled_len = 2 ^ 32 - 1

abbrev pub slot_seen : List ℕ → Extent → Option (List ℕ)
slot_seen bytes e = if e.len == unfilled_len then None else Some (text_in bytes e)

abbrev pub IsFilled : Extent → Type 0
IsFilled e = e.len ≢ unfilled_len

-- what a text's mark tells: 1 where an IRI may need escapes, 2 for xsd:string alone
abbrev pub IsMark : List ℕ → ℕ → Type 0
IsMark text mark = (mark < 3) × (mark ≢ 1 → iri_escaped text ≡ text) × ((mark ≡ 2) ↔ (text ≡ xsd_string))

-- The text lies in the bytes.
abbrev pub IsHeld : List ℕ → Extent → Type 0
IsHeld bytes e = place_of e + e.len ≤ length bytes

-- The text lies in the bytes, and its mark tells how it is written.
pub record IsSound (bytes : List ℕ) (e : Extent) : Type 0 where
  pub held : IsHeld bytes e
  pub mark : IsMark (text_in bytes e) (mark_of e)

-- each filled slot of a table is sound
abbrev pub AreSound : List ℕ → List Extent → Type 0
AreSound bytes slots = (id : ℕ) (e : Extent) → id < length slots → slice_index_or slots id e ≡ e → IsFilled e → IsSound bytes e

-- no text, in any bytes
abbrev pub IsEmpty : Extent → Type 0
IsEmpty e = (bytes : List ℕ) → (text_in bytes e ≡ []) × IsSound bytes e
