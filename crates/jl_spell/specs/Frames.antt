-- Frames as bytes (Jelly RDF serialization, "Delimited variant of Jelly").
use Rattle.std.specs.Prelude.{ℕ, List, ◌++◌, length, flat_map}
use Rattle.jl_rows.specs.Written.{Row}
use Rattle.jl_spell.specs.Varints.{varint_of}
use Rattle.jl_spell.specs.Fields.{Bytes, field_of}
use Rattle.jl_spell.specs.Rows.{row_of}

-- a frame's body: its rows, each in a field 1
abbrev pub body_of : List Row → List ℕ
body_of rs = flat_map (λ (r : Row). field_of 1 (Bytes (row_of r))) rs

-- a frame: its body after its length
abbrev pub frame_of : List ℕ → List ℕ
frame_of body = varint_of (length body) ++ body

-- a file: its frames one after another
abbrev pub frames_of : List (List ℕ) → List ℕ
frames_of bodies = flat_map (λ (b : List ℕ). frame_of b) bodies
