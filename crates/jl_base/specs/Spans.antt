-- What a span of bytes says.
use Rattle.std.specs.Prelude.{ℕ, ◌+◌, ◌≤◌, List, length, slice_range}
use Rattle.jl_base.specs.declared.place.Span.{Span}

-- the bytes of the span
abbrev pub text_of : List ℕ → Span → List ℕ
text_of bytes span = slice_range bytes span.at (span.at + span.len)

-- the span lies inside the bytes
abbrev pub IsInside : List ℕ → Span → Type 0
IsInside bytes span = span.at + span.len ≤ length bytes
