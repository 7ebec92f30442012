-- The bytes of the two options rows.
use Rattle.std.proofs.Common.{◌≡◌, ℕ, List, [], ◌∷◌, ◌++◌, Result, Ok, Err, OnOk, is_ok, if◌then◌else◌, refl, ap, sym, ◌∙◌}
use Rattle.jl_spell.specs.Varints.{varint_within, varint_of}
use Rattle.jl_spell.specs.Fields.{field_of}
use Rattle.jl_spell.specs.Messages.{message_of}
use Rattle.jl_spell.specs.Rows.{row_of}
use Rattle.jl_spell.specs.Frames.{body_of}
use Rattle.jl_encoding.specs.declared.form.Form.{Form}
use Rattle.jl_encoding.specs.Encoding.{first_row}

pub triples_row : body_of (first_row Form.Triples ∷ []) ≡ 0x0A ∷ 0x12 ∷ 0x0A ∷ 0x10 ∷ 0x10 ∷ 0x01 ∷ 0x18 ∷ 0x01 ∷ 0x20 ∷ 0x01 ∷ 0x48 ∷ 0xA0 ∷ 0x1F ∷ 0x50 ∷ 0x96 ∷ 0x01 ∷ 0x58 ∷ 0x20 ∷ 0x78 ∷ 0x02 ∷ []
unfolding row_of message_of field_of varint_of varint_within
triples_row = refl

pub quads_row : body_of (first_row Form.Quads ∷ []) ≡ 0x0A ∷ 0x12 ∷ 0x0A ∷ 0x10 ∷ 0x10 ∷ 0x02 ∷ 0x18 ∷ 0x01 ∷ 0x20 ∷ 0x01 ∷ 0x48 ∷ 0xA0 ∷ 0x1F ∷ 0x50 ∷ 0x96 ∷ 0x01 ∷ 0x58 ∷ 0x20 ∷ 0x78 ∷ 0x02 ∷ []
unfolding row_of message_of field_of varint_of varint_within
quads_row = refl

-- bytes that are appended where there is memory
pub when_row : {A E : Type 0} (r : Result A E) (old new row held : List ℕ) → row ≡ held → new ≡ (if is_ok r then (old ++ held) else old) → OnOk r (new ≡ old ++ row)
when_row (Ok x) old new row held is e = e ∙ ap (λ (xs : List ℕ). old ++ xs) (sym is)
when_row (Err x) old new row held is e = tt
