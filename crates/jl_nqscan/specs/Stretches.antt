-- Stretches of a text in which no line ends.
use Rattle.std.specs.Prelude.{◌≡◌, ℕ, List, [], drop, slice_range, slice_index_or}
use Rattle.jl_nqscan.specs.Reading.{feed, lines_after}
use Rattle.jl_nqscan.specs.Scanning.{feeds_of}

-- how many line feeds stand at a place
abbrev pub feed_at : List ℕ → ℕ → ℕ
feed_at bytes at = feed (slice_index_or bytes at 0)

-- no line ends between two places
abbrev pub IsStretch : List ℕ → ℕ → ℕ → Type 0
IsStretch bytes from at =
    ((feeds : ℕ) → lines_after feeds [] (drop from bytes) ≡ lines_after feeds (slice_range bytes from at) (drop at bytes))
    × (feeds_of (drop from bytes) ≡ feeds_of (drop at bytes))
