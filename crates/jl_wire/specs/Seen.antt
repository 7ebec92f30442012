-- What the code's fields stand for, and where they lie.
use Rattle.std.specs.Prelude.{◌≡◌, ℕ, ◌+◌, ◌-◌, ◌<◌, ◌≤◌, ◌^◌, List, slice_range, Option, Some, None, Result, Ok, Err}
use Rattle.jl_base.specs.Spans.{text_of}
use Rattle.jl_base.specs.declared.kind.Kind.{Kind}
use Rattle.jl_wire.specs.Fields as wire
use Rattle.jl_wire.specs.declared.field.Field as code
use Rattle.jl_wire.specs.declared.field.Value.{Value}
use Rattle.jl_wire.specs.declared.field.Value.TheVariants.{Varint, Bytes, Fixed64, Fixed32}

-- the content of a field, with its bytes in place of their span
abbrev pub content_seen : List ℕ → Value → wire.Content
content_seen bytes (Varint n) = wire.Number n
content_seen bytes (Bytes span) = wire.Bytes (text_of bytes span)
content_seen bytes (Fixed64 n) = wire.Eight n
content_seen bytes (Fixed32 n) = wire.Four n

-- the field that was read at a place
abbrev pub field_seen : List ℕ → ℕ → code.Field → wire.Field
field_seen bytes at f = record { number = f.number; content = content_seen bytes f.value; size = f.next - at }

-- What a reader answers at a place of the range up to end: no field exactly at the end, and else what the definition
-- says of the bytes from there on.
abbrev pub IsNextField : List ℕ → ℕ → ℕ → Result (Option code.Field) Kind → Type 0
IsNextField bytes at end (Ok None) = at ≡ end
IsNextField bytes at end (Ok (Some f)) = (at < end) × (wire.field (slice_range bytes at end) ≡ Ok (field_seen bytes at f))
IsNextField bytes at end (Err k) = (at < end) × (wire.field (slice_range bytes at end) ≡ Err k)

-- bytes lie behind a place, and end where the value does
abbrev pub Lies : ℕ → ℕ → Value → Type 0
Lies at next (Varint n) = Unit {0}
Lies at next (Bytes span) = (at < span.at) × (span.at + span.len ≡ next)
Lies at next (Fixed64 n) = Unit {0}
Lies at next (Fixed32 n) = Unit {0}

-- A field that was read at a place of the range up to end.
pub record IsWithin (at end : ℕ) (f : code.Field) : Type 0 where
  pub after : at < f.next
  pub before : f.next ≤ end
  pub bytes : Lies at f.next f.value
  pub above : 0 < f.number
  pub below : f.number < 2 ^ 29
