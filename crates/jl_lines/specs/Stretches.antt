-- A stretch of frames, and a stand in it: a frame, a place in its body, and how many of its rows stand before that place.
use Rattle.std.specs.Prelude.{◌≡◌, ℕ, ◌+◌, ◌≤◌, List, [], ◌∷◌, map, slice_get, slice_range, Option, Some, None}
use Rattle.jl_base.specs.Results.{Reading, joined}
use Rattle.jl_base.specs.Spans.{text_of}
use Rattle.jl_base.specs.declared.place.Fault.{Fault}
use Rattle.jl_base.specs.declared.place.Span.{Span}
use Rattle.jl_rows.specs.Files.{Placed, placed_on, rows, rows_then}
use Rattle.jl_frames.specs.Index.{Index, behind, end_of}
use Rattle.jl_lines.specs.declared.frame.Frame.{Frame}
use Rattle.jl_lines.specs.declared.stretch.Stand.{Stand}

-- the rows of a frame from a place in it on, after so many rows, and then what follows the frame
abbrev pub rest_of : List ℕ → Frame → ℕ → ℕ → Reading Placed Fault → Reading Placed Fault
rest_of bytes frame before at B = joined (placed_on frame.number before (rows (slice_range bytes at frame.end))) B

-- the rows of frames with these bodies, the first of this number, and then what follows
abbrev pub rows_of : List ℕ → ℕ → List Span → Reading Placed Fault → Reading Placed Fault
rows_of bytes number bodies B = rows_then number (map (text_of bytes) bodies) B

abbrev pub frame_at : ℕ → Span → Frame
frame_at number body = record { number = number; end = end_of body }

-- what is left of frames with these bodies, from a stand in the first of them on
abbrev pub left_in : List ℕ → ℕ → List Span → Stand → Reading Placed Fault → Reading Placed Fault
left_in bytes number [] stand B = B
left_in bytes number (body ∷ bodies) stand B = rest_of bytes (frame_at number body) stand.before (body.at + stand.place) (rows_of bytes (number + 1) bodies B)

-- what is left of an index from a stand on and up to its first `end` frames, and then what follows
abbrev pub left_from : List ℕ → Index → Stand → ℕ → Reading Placed Fault → Reading Placed Fault
left_from bytes index stand end B = left_in bytes (index.first + stand.frame) (slice_range index.bodies stand.frame end) stand B

-- the beginning of a frame that has so many before it
abbrev pub stand_at : ℕ → Stand
stand_at i = record { frame = i; place = 0; before = 0 }

-- how far a stand is
abbrev pub reach_of : Index → Stand → ℕ
reach_of index stand = behind index stand.frame + stand.place

-- A stand of the first `end` frames.
pub record IsStand (index : Index) (stand : Stand) (end : ℕ) : Type 0 where
  pub reached : stand.frame ≤ end
  pub inside : (body : Span) → slice_get index.bodies stand.frame ≡ Some body → stand.place ≤ body.len
  pub counted : stand.before ≤ stand.place
  pub within : reach_of index stand ≤ behind index end

-- how far a stretch came: to a stand, or to its end
abbrev pub reached_by : Index → ℕ → Option Stand → ℕ
reached_by index end (Some stand) = reach_of index stand
reached_by index end None = behind index end
