-- Fields as bytes (Protocol Buffers, Encoding, "Message Structure"): a tag, and then a number as a varint, or bytes after
-- their length.
use Rattle.std.specs.Prelude.{ℕ, ◌+◌, ◌*◌, ◌^◌, ◌<◌, List, ◌++◌, length, flat_map}
use Rattle.jl_wire.specs.Fields as wire
use Rattle.jl_spell.specs.Varints.{varint_of}

-- what a field of Jelly holds; bytes are a text, or a message
pub data Held : Type 0 where
  Number : ℕ → Held
  Bytes : List ℕ → Held

-- a field, by its number
pub record Filled : Type 0 where
  pub number : ℕ
  pub holds : Held

-- a tag: the field's number and its wire type
abbrev pub tag_of : ℕ → ℕ → List ℕ
tag_of number wire = varint_of (number * 8 + wire)

-- what stands before the bytes of a field: its tag and their length
abbrev pub front_of : ℕ → ℕ → List ℕ
front_of number len = tag_of number 2 ++ varint_of len

unfoldable pub field_of : ℕ → Held → List ℕ
field_of number (Number n) = tag_of number 0 ++ varint_of n
field_of number (Bytes t) = front_of number (length t) ++ t

-- fields one after another
abbrev pub fields_of : List Filled → List ℕ
fields_of fs = flat_map (λ (f : Filled). field_of f.number f.holds) fs

-- What can be spelled: field numbers of Protocol Buffers, and numbers and lengths below 2^64.
abbrev pub IsHeld : Held → Type 0
IsHeld (Number n) = n < 2 ^ 64
IsHeld (Bytes t) = length t < 2 ^ 64

abbrev pub IsFilled : Filled → Type 0
IsFilled f = (0 < f.number) × (f.number < 2 ^ 29) × IsHeld f.holds

-- what the reader makes of it
abbrev pub content : Held → wire.Content
content (Number n) = wire.Number n
content (Bytes t) = wire.Bytes t

abbrev pub field_read : Filled → wire.Field
field_read f = record { number = f.number; content = content f.holds; size = length (field_of f.number f.holds) }
