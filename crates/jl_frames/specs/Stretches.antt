-- The rows of some of an index's frames.
use Rattle.std.specs.Prelude.{ℕ, ◌+◌, List, map, slice_range}
use Rattle.jl_base.specs.Results.{Reading}
use Rattle.jl_base.specs.Spans.{text_of}
use Rattle.jl_base.specs.declared.place.Fault.{Fault}
use Rattle.jl_rows.specs.Files.{Placed, rows_then}
use Rattle.jl_frames.specs.Index.{Index}

-- those of the frames after the first i and up to the first `end`, and then what follows
abbrev pub between : List ℕ → Index → ℕ → ℕ → Reading Placed Fault → Reading Placed Fault
between bytes index i end B = rows_then (index.first + i) (map (text_of bytes) (slice_range index.bodies i end)) B
