-- The whole windows of some bytes: those to which no byte is missing.
use Rattle.std.specs.Prelude.{◌≡◌, ℕ, true, false, List, [], ◌∷◌, ◌++◌}
use Rattle.jl_rows.specs.Files.{frames}
use Rattle.jl_frames.specs.Windows.{after_window, is_short, window}

-- the bodies of the frames of some windows, in order
abbrev pub bodies_of : List (List (List ℕ)) → List (List ℕ)
bodies_of [] = []
bodies_of (w ∷ ws) = w ++ bodies_of ws

-- the first windows of these bytes are whole and have frames with these bodies, and this is left after them
abbrev pub AreWhole : ℕ → List ℕ → List (List (List ℕ)) → List ℕ → Type 0
AreWhole size bytes [] over = bytes ≡ over
AreWhole size bytes (w ∷ ws) over = (is_short size bytes ≡ false) × (w ≡ (frames (window size bytes)).items) × AreWhole size (after_window size bytes) ws over

-- these are all whole windows of some bytes: bytes are missing to the next one
abbrev pub AreAllWhole : ℕ → List ℕ → List (List (List ℕ)) → Type 0
AreAllWhole size bytes ws = (over : List ℕ) × AreWhole size bytes ws over × (is_short size over ≡ true)
