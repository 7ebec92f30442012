-- What is spelled is read back.
use Rattle.std.specs.Prelude.{◌≡◌, ℕ, ◌≤◌, ◌<◌, ◌^◌, List, ◌++◌, length, map, Option, Some, None, Ok}
use Rattle.std.specs.List.{AllByRecursion}
use Rattle.jl_wire.specs.Varint.{varint}
use Rattle.jl_wire.specs.Fields.{fields}
use Rattle.jl_rows.specs.declared.message.Message.{Message}
use Rattle.jl_rows.specs.Written.{Row}
use Rattle.jl_rows.specs.Rows.{row}
use Rattle.jl_rows.specs.Files.{most_body, frames, rows}
use Rattle.jl_spell.specs.Varints.{varint_of}
use Rattle.jl_spell.specs.Fields.{Held, IsHeld, Filled, IsFilled, fields_of, field_read}
use Rattle.jl_spell.specs.Messages.{Ascend, fields_filled, message_of}
use Rattle.jl_spell.specs.Rows.{row_of, IsRow}
use Rattle.jl_spell.specs.Frames.{body_of, frames_of}

-- a varint is read back, whatever follows it
abbrev pub VarintsReadBack : Type 0
VarintsReadBack = (n : ℕ) (rest : List ℕ) → n < 2 ^ 64 → varint (varint_of n ++ rest) ≡ Ok (n, length (varint_of n))

-- and no varint of the number is shorter
abbrev pub VarintsAreShortest : Type 0
VarintsAreShortest = (bytes : List ℕ) (found : ℕ × ℕ) → AllByRecursion (λ b. b < 256) bytes → varint bytes ≡ Ok found → length (varint_of found.0) ≤ found.1

-- fields are read back, and no fault
abbrev pub FieldsReadBack : Type 0
FieldsReadBack = (fs : List Filled) → AllByRecursion IsFilled fs → fields (fields_of fs) ≡ record { items = map field_read fs; fault = None }

-- the fields of any message ascend
abbrev pub MessagesAscend : Type 0
MessagesAscend = (m : Message) (hs : List (Option Held)) → Ascend 0 (fields_filled m hs)

-- what a message holds is read back as those fields, and no fault
abbrev pub IsMaybeHeld : Option Held → Type 0
IsMaybeHeld None = Unit {0}
IsMaybeHeld (Some h) = IsHeld h

abbrev pub MessagesReadBack : Type 0
MessagesReadBack = (m : Message) (hs : List (Option Held)) → AllByRecursion IsMaybeHeld hs → fields (message_of m hs) ≡ record { items = map field_read (fields_filled m hs); fault = None }

-- a row is read back
abbrev pub RowsReadBack : Type 0
RowsReadBack = (r : Row) → IsRow r → length (row_of r) < 2 ^ 64 → row (row_of r) ≡ Ok r

-- the rows of a frame are read back, and no fault
abbrev pub BodiesReadBack : Type 0
BodiesReadBack = (rs : List Row) → AllByRecursion IsRow rs → length (body_of rs) < 2 ^ 64 → rows (body_of rs) ≡ record { items = rs; fault = None }

-- frames that aren't too long are read back, and no fault
abbrev pub FramesReadBack : Type 0
FramesReadBack = (bodies : List (List ℕ)) → AllByRecursion (λ b. length b ≤ most_body) bodies → frames (frames_of bodies) ≡ record { items = bodies; fault = None }
