-- Files whose windows were written out by hand, held against the definition by computing.
use Rattle.std.specs.Prelude.{◌≡◌, ℕ, List, [], ◌∷◌, ◌++◌, length, map, take, replicate, Option, Some, None}
use Rattle.std.proofs.Common.{refl}
use Rattle.jl_base.specs.Results.{Reading}
use Rattle.jl_base.specs.declared.kind.Kind.{Kind}
use Rattle.jl_base.specs.declared.kind.Kind.TheVariants.{Truncated, BadVarint, FrameTooLong}
use Rattle.jl_wire.specs.Varint.{varint, varint_within}
use Rattle.jl_rows.specs.Files.{frames_after}
use Rattle.jl_frames.specs.Windows.{rest_after, windows_within, windows}

-- how long the bodies of a window are, and its fault
abbrev sizes : Reading (List ℕ) Kind → List ℕ × Option Kind
sizes R = (map length R.items, R.fault)

-- frames of 46, 10 and 10 bytes
abbrev file : List ℕ
file = 45 ∷ replicate 45 7 ++ 9 ∷ replicate 9 7 ++ 9 ∷ replicate 9 7

-- the first window has its long frame whole, and the second a part of the third frame
three_windows : map sizes (windows 16 file) ≡ (45 ∷ [], None) ∷ (9 ∷ [], None) ∷ (9 ∷ [], None) ∷ []
unfolding windows_within rest_after frames_after varint varint_within
three_windows = refl

cut_in_the_second : map sizes (windows 16 (take 50 file)) ≡ (45 ∷ [], None) ∷ ([], Some Truncated) ∷ []
unfolding windows_within rest_after frames_after varint varint_within
cut_in_the_second = refl

-- where the file fills its last window, one without bytes follows
filled : map sizes (windows 16 (replicate 32 0)) ≡ (replicate 16 0, None) ∷ (replicate 16 0, None) ∷ ([], None) ∷ []
unfolding windows_within rest_after frames_after varint varint_within
filled = refl

no_bytes : windows 16 [] ≡ record { items = []; fault = None } ∷ []
unfolding windows_within rest_after frames_after varint varint_within
no_bytes = refl

too_long : windows 16 (0x81 ∷ 0x80 ∷ 0x80 ∷ 0x40 ∷ []) ≡ record { items = []; fault = Some FrameTooLong } ∷ []
unfolding windows_within rest_after frames_after varint varint_within
too_long = refl

-- a length that is none ends the file, also where bytes follow it
no_length : map sizes (windows 16 (1 ∷ 7 ∷ replicate 12 255 ++ replicate 40 0)) ≡ (1 ∷ [], Some BadVarint) ∷ []
unfolding windows_within rest_after frames_after varint varint_within
no_length = refl
