-- The rows of a stretch by its frames.
use Rattle.std.proofs.Common.{◌≡◌, ℕ, ◌+◌, ◌<◌, ◌≤◌, List, [], ◌∷◌, slice_get, slice_range, Some, refl, ap, sym, ◌∙◌, arith}
use Rattle.jl_base.specs.Results.{Reading}
use Rattle.jl_base.specs.declared.place.Fault.{Fault}
use Rattle.jl_base.specs.declared.place.Span.{Span}
use Rattle.jl_rows.specs.Files.{Placed}
use Rattle.jl_frames.specs.Index.{Index}
use Rattle.jl_lines.specs.declared.stretch.Stand.{Stand}
use Rattle.jl_frames.specs.Stretches.{between}
use Rattle.jl_frames.proofs.Stretches.{range_next, range_none}
use Rattle.jl_lines.specs.Stretches.{frame_at, left_from, left_in, rest_of, rows_of, stand_at}

module _ (bytes : List ℕ) (index : Index) (end : ℕ) (B : Reading Placed Fault) where
  -- a stand at a frame's beginning has the whole frame before it
  begins : (number : ℕ) (bodies : List Span) (i : ℕ) → left_in bytes number bodies (stand_at i) B ≡ rows_of bytes number bodies B
  begins number [] i = refl
  begins number (b ∷ bodies) i =
      let none : b.at + 0 ≡ b.at = omega arith in
      ap (λ (at : ℕ). rest_of bytes (frame_at number b) 0 at (rows_of bytes (number + 1) bodies B)) none

  pub left_begins : (i : ℕ) → left_from bytes index (stand_at i) end B ≡ between bytes index i end B
  left_begins i = begins (index.first + i) (slice_range index.bodies i end) i

  -- into the frame of a stand, and on to the next one
  pub left_enters : (stand : Stand) (body : Span) → stand.frame < end → slice_get index.bodies stand.frame ≡ Some body
      → left_from bytes index stand end B ≡ rest_of bytes (frame_at (index.first + stand.frame) body) stand.before (body.at + stand.place) (left_from bytes index (stand_at (stand.frame + 1)) end B)
  left_enters stand body lt e =
      let next : index.first + stand.frame + 1 ≡ index.first + (stand.frame + 1) = omega arith in
      ap (λ (xs : List Span). left_in bytes (index.first + stand.frame) xs stand B) (range_next index.bodies stand.frame end body lt e)
      ∙ ap (λ (n : ℕ). rest_of bytes (frame_at (index.first + stand.frame) body) stand.before (body.at + stand.place) (rows_of bytes n (slice_range index.bodies (stand.frame + 1) end) B)) next
      ∙ ap (λ (R : Reading Placed Fault). rest_of bytes (frame_at (index.first + stand.frame) body) stand.before (body.at + stand.place) R) (sym (left_begins (stand.frame + 1)))

  -- after the last frame only what follows is left
  pub left_ends : (stand : Stand) → end ≤ stand.frame → left_from bytes index stand end B ≡ B
  left_ends stand le = ap (λ (xs : List Span). left_in bytes (index.first + stand.frame) xs stand B) (range_none index.bodies stand.frame end le)

  pub none_between : (i : ℕ) → end ≤ i → between bytes index i end B ≡ B
  none_between i le = ap (λ (xs : List Span). rows_of bytes (index.first + i) xs B) (range_none index.bodies i end le)
