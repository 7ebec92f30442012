-- The index of some frames: where their bodies lie (Jelly RDF serialization, "Delimited variant of Jelly").
use Rattle.std.specs.Prelude.{◌≡◌, ℕ, ◌+◌, ◌-◌, ◌^◌, ◌<◌, ◌≤◌, List, [], ◌∷◌, length, map, take, slice_get, slice_range, Option, Some}
use Rattle.jl_base.specs.Results.{with_front}
use Rattle.jl_base.specs.Spans.{text_of}
use Rattle.jl_base.specs.declared.place.Span.{Span}
use Rattle.jl_base.specs.declared.place.Fault.{Fault}
use Rattle.jl_rows.specs.Files.{frames, ends_at}

-- `lo` is the place of the first frame's length, and `first` the first frame's number; where there is no frame they are
-- those that it would have.
pub record Index : Type 0 where
  pub bodies : List Span
  pub tail : Option Fault
  pub lo : ℕ
  pub first : ℕ

-- the place behind a body
abbrev pub end_of : Span → ℕ
end_of body = body.at + body.len

-- each body ends below 2^64
abbrev pub AreFit : List Span → Type 0
AreFit bodies = (i : ℕ) (body : Span) → slice_get bodies i ≡ Some body → end_of body < 2 ^ 64

-- what is left of a file from a place on
abbrev pub from : List ℕ → ℕ → List ℕ
from file at = slice_range file at (length file)

-- the frame whose length begins at a place has this body, and the file's other frames follow behind it
pub record IsFrameAt (file : List ℕ) (at : ℕ) (body : Span) : Type 0 where
  pub above : at < body.at
  pub within : end_of body ≤ length file
  pub frame : frames (from file at) ≡ with_front (text_of file body) (frames (from file (end_of body)))

-- the frames from one place to another have these bodies, in order and without a gap
abbrev pub AreFrames : List ℕ → ℕ → List Span → ℕ → Type 0
AreFrames file at [] end = at ≡ end
AreFrames file at (body ∷ bodies) end = IsFrameAt file at body × AreFrames file (end_of body) bodies end

-- a body lies between its length and the next frame's, from one place to another
abbrev pub AreLaid : ℕ → List Span → ℕ → Type 0
AreLaid at [] end = at ≡ end
AreLaid at (body ∷ bodies) end = (at < body.at) × AreLaid (end_of body) bodies end

-- the place after the last of some frames, or where they begin if there is none
abbrev pub last_end : ℕ → List Span → ℕ
last_end at [] = at
last_end at (body ∷ bodies) = last_end (end_of body) bodies

-- how many bytes the frames have, with their lengths
abbrev pub bytes_of : Index → ℕ
bytes_of index = last_end index.lo index.bodies - index.lo

-- the place after the first n frames
abbrev pub behind : Index → ℕ → ℕ
behind index n = last_end index.lo (take n index.bodies)

-- All frames of the file, and the fault of what stands after them: its row is 0, and its frame one more than they are.
pub record IsIndex (file : List ℕ) (index : Index) : Type 0 where
  pub lo : index.lo ≡ 0
  pub first : index.first ≡ 1
  pub bodies : map (text_of file) index.bodies ≡ (frames file).items
  pub tail : index.tail ≡ ends_at (length index.bodies + 1) 0 (frames file).fault
  pub places : AreFrames file 0 index.bodies (last_end 0 index.bodies)
  pub rest : frames (from file (last_end 0 index.bodies)) ≡ record { items = []; fault = (frames file).fault }
