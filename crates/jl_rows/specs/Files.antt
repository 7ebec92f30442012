-- Frames and the rows in them (Jelly RDF serialization, "Delimited variant of Jelly" and "RdfStreamFrame").
use Rattle.std.specs.Prelude.{ℕ, zero, suc, ◌+◌, ◌-◌, ◌^◌, ◌<◌, ◌==◌, List, [], ◌∷◌, length, take, drop, Option, Some, None, Result, Ok, Err, nat_lt, if◌then◌else◌}
use Rattle.jl_base.specs.Results.{◌>>=◌, Reading, led, with_front, joined}
use Rattle.jl_base.specs.declared.kind.Kind.{Kind}
use Rattle.jl_base.specs.declared.kind.Kind.TheVariants.{Truncated, WrongWire, FrameTooLong}
use Rattle.jl_base.specs.declared.place.Place.{Place}
use Rattle.jl_base.specs.declared.place.Fault.{Fault}
use Rattle.jl_wire.specs.Varint.{varint}
use Rattle.jl_wire.specs.Fields.{Content, Field, fields}
use Rattle.jl_rows.specs.Written.{Row}
use Rattle.jl_rows.specs.Rows.{row}

-- what a field of a frame says: a row, or nothing; the content of metadata is unread
abbrev pub row_in : Content → Result (Option Row) Kind
row_in (Content.Bytes t) = row t >>= λ r. Ok (Some r)
row_in _ = Err WrongWire

abbrev pub unread : Content → Result (Option Row) Kind
unread (Content.Bytes t) = Ok None
unread _ = Err WrongWire

abbrev pub said_in_frame : ℕ → Content → Result (Option Row) Kind
said_in_frame number content = if number == 1 then row_in content else if number == 15 then unread content else Ok None

abbrev pub in_front : Option Row → Reading Row Kind → Reading Row Kind
in_front None next = next
in_front (Some r) next = with_front r next

-- the rows of a frame, in the order of its fields, up to the first fault
unfoldable pub rows_among : List Field → Option Kind → Reading Row Kind
rows_among [] fault = record { items = []; fault = fault }
rows_among (f ∷ fs) fault = led (said_in_frame f.number f.content) (λ r. in_front r (rows_among fs fault))

unfoldable pub rows : List ℕ → Reading Row Kind
rows body = rows_among (fields body).items (fields body).fault

-- how many bytes these fields take up to the end of the first row
abbrev pub up_to_row : List Field → ℕ
up_to_row [] = 0
up_to_row (f ∷ fs) = if f.number == 1 then f.size else f.size + up_to_row fs

-- where the first row of a frame ends
unfoldable pub row_end : List ℕ → ℕ
row_end body = up_to_row (fields body).items

-- how many bytes a frame's body may have
abbrev pub most_body : ℕ
most_body = 2 ^ 27

-- the body behind a length, and how many bytes both take
abbrev pub body_behind : List ℕ → ℕ × ℕ → Result (List ℕ × ℕ) Kind
body_behind bytes len =
    if nat_lt most_body len.0 then Err FrameTooLong
    else if nat_lt (length bytes - len.1) len.0 then Err Truncated
    else Ok (take len.0 (drop len.1 bytes), len.1 + len.0)

-- the bodies of a file's frames, each after its length; the rest behind them is a fault where it is no whole frame
abbrev pub body : List ℕ → Result (List ℕ × ℕ) Kind
body bytes = varint bytes >>= λ len. body_behind bytes len

unfoldable pub frames_after : ℕ → List ℕ → Reading (List ℕ) Kind
frames_after skip [] = record { items = []; fault = None }
frames_after (suc skip) (b ∷ bytes) = frames_after skip bytes
frames_after zero (b ∷ bytes) = led (body (b ∷ bytes)) (λ f. with_front f.0 (frames_after (f.1 - 1) bytes))

abbrev pub frames : List ℕ → Reading (List ℕ) Kind
frames bytes = frames_after 0 bytes

-- a row with its place
pub record Placed : Type 0 where
  pub place : Place
  pub row : Row

-- the place of a row: its frame, and one more than the rows before it there
abbrev pub place_at : ℕ → ℕ → Place
place_at frame n = record { frame = frame; row = n }

abbrev pub fault_at : ℕ → ℕ → Kind → Fault
fault_at frame n kind = record { place = place_at frame n; kind = kind }

abbrev pub ends_at : ℕ → ℕ → Option Kind → Option Fault
ends_at frame before None = None
ends_at frame before (Some kind) = Some (fault_at frame before kind)

-- the rows of a frame at their places, of which so many stood before
unfoldable pub placed : ℕ → ℕ → List Row → Option Kind → Reading Placed Fault
placed frame before [] fault = record { items = []; fault = ends_at frame (before + 1) fault }
placed frame before (r ∷ rs) fault = with_front (record { place = place_at frame (before + 1); row = r }) (placed frame (before + 1) rs fault)

abbrev pub placed_on : ℕ → ℕ → Reading Row Kind → Reading Placed Fault
placed_on frame before R = placed frame before R.items R.fault

abbrev pub frame_rows : ℕ → List ℕ → Reading Placed Fault
frame_rows frame body = placed frame 0 (rows body).items (rows body).fault

-- the readings of frames one after another, and then the fault behind them, which has row 0
unfoldable pub rows_from : ℕ → List (List ℕ) → Option Kind → Reading Placed Fault
rows_from frame [] fault = record { items = []; fault = ends_at frame 0 fault }
rows_from frame (b ∷ bs) fault = joined (frame_rows frame b) (rows_from (frame + 1) bs fault)

abbrev pub rows_on : ℕ → Reading (List ℕ) Kind → Reading Placed Fault
rows_on frame R = rows_from frame R.items R.fault

-- all rows of a file
abbrev pub all_rows : List ℕ → Reading Placed Fault
all_rows file = rows_from 1 (frames file).items (frames file).fault

-- the rows of frames with these bodies, the first of this number, and then what follows
abbrev pub rows_then : ℕ → List (List ℕ) → Reading Placed Fault → Reading Placed Fault
rows_then frame [] B = B
rows_then frame (b ∷ bs) B = joined (frame_rows frame b) (rows_then (frame + 1) bs B)
