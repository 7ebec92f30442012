-- Fields (Protocol Buffers, Encoding, "Message Structure"). A field is a tag, which is its number and its wire type, and
-- then its content.
use Rattle.std.specs.Prelude.{ℕ, zero, suc, ◌+◌, ◌-◌, ◌/◌, ◌%◌, ◌^◌, Bool, ◌||◌, ◌==◌, List, [], ◌∷◌, length, take, drop, None, Result, Ok, Err, nat_lt, if◌then◌else◌}
use Rattle.std.specs.Int.{Width, w32, w64, byte_len, from_le_bytes}
use Rattle.jl_base.specs.Results.{◌>>=◌, Reading, led, with_front}
use Rattle.jl_base.specs.declared.kind.Kind.{Kind}
use Rattle.jl_base.specs.declared.kind.Kind.TheVariants.{Truncated, BadTag}
use Rattle.jl_wire.specs.Varint.{varint}

pub data Content : Type 0 where
  Number : ℕ → Content
  Bytes : List ℕ → Content
  Eight : ℕ → Content
  Four : ℕ → Content

-- a field's number and content, and how many bytes it takes with its tag
pub record Field : Type 0 where
  pub number : ℕ
  pub content : Content
  pub size : ℕ

-- a field number of 0 or above 2^29 - 1, or the wire type of a group or of none
abbrev pub is_bad_tag : ℕ → Bool
is_bad_tag tag = (tag / 8 == 0) || (nat_lt (2 ^ 29 - 1) (tag / 8)) || (tag % 8 == 3) || (tag % 8 == 4) || (nat_lt 5 (tag % 8))

-- as many bytes as the width has
abbrev pub fixed : Width → (ℕ → Content) → List ℕ → Result (Content × ℕ) Kind
fixed w make bytes = if nat_lt (length bytes) (byte_len w) then Err Truncated else Ok (make (from_le_bytes w (take (byte_len w) bytes)), byte_len w)

-- a length, and that many bytes
abbrev pub counted_bytes : List ℕ → Result (Content × ℕ) Kind
counted_bytes bytes = varint bytes >>= λ len. if nat_lt (length bytes - len.1) len.0 then Err Truncated else Ok (Bytes (take len.0 (drop len.1 bytes)), len.1 + len.0)

-- the content of a wire type, and how many bytes it takes
abbrev pub content_of : ℕ → List ℕ → Result (Content × ℕ) Kind
content_of wire bytes =
    if wire == 0 then (varint bytes >>= λ n. Ok (Number n.0, n.1))
    else if wire == 1 then fixed w64 Eight bytes
    else if wire == 2 then counted_bytes bytes
    else fixed w32 Four bytes

-- the field in front
unfoldable pub field : List ℕ → Result Field Kind
field bytes = do
  tag ← varint bytes
  content ← if is_bad_tag tag.0 then Err BadTag else content_of (tag.0 % 8) (drop tag.1 bytes)
  Ok (record { number = tag.0 / 8; content = content.0; size = tag.1 + content.1 })

-- the fields one after another, behind the bytes that are to be skipped
unfoldable pub fields_after : ℕ → List ℕ → Reading Field Kind
fields_after skip [] = record { items = []; fault = None }
fields_after (suc skip) (b ∷ bytes) = fields_after skip bytes
fields_after zero (b ∷ bytes) = led (field (b ∷ bytes)) (λ f. with_front f (fields_after (f.size - 1) bytes))

-- the fields of a message, up to its end or the first that can't be read
abbrev pub fields : List ℕ → Reading Field Kind
fields bytes = fields_after 0 bytes
