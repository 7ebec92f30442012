-- The head of a file whose first frames have no rows.
use Rattle.std.proofs.Common.{◌≡◌, false, ℕ, ◌+◌, List, [], slice_range, Some, None, ◌∙◌, ap}
use Rattle.jl_base.specs.Results.{Reading, with_front}
use Rattle.jl_base.specs.declared.kind.Kind.{Kind}
use Rattle.jl_base.specs.declared.place.Fault.{Fault}
use Rattle.jl_rows.specs.Written.{Row}
use Rattle.jl_rows.specs.Files.{Placed, fault_at, frames, place_at, rows, rows_on}
use Rattle.jl_rows.specs.Decoder.{Head, first_row_checked, head, head_checked, head_of}
use Rattle.jl_rows.proofs.FileLaws.{file_next, file_done, file_broken, rows_next, rows_done, rows_broken}
use Rattle.jl_rows.proofs.FrameLaws.{frames_at_end}

-- the head of these rows
abbrev head_on : Reading Placed Fault → Head
head_on R = head_of R.items R.fault

module _ (bytes : List ℕ) (n at end : ℕ) where
  -- no rows stand before this place
  abbrev pub Behind : Type 0
  Behind = rows_on 1 (frames bytes) ≡ rows_on n (frames (slice_range bytes at end))

  pub nothing_left : Behind → at ≡ end → head false bytes ≡ Head.Nothing
  unfolding head
  nothing_left before e = ap head_on (before ∙ file_done n (slice_range bytes at end) (frames_at_end bytes at end e))

  pub no_frame : Behind → (k : _) → frames (slice_range bytes at end) ≡ record { items = []; fault = Some k } → head false bytes ≡ Head.Bad (fault_at n 0 k)
  unfolding head
  no_frame before k e = ap head_on (before ∙ file_broken n (slice_range bytes at end) k e)

  module _ (start stop : ℕ) where
    abbrev pub IsFrame : Type 0
    IsFrame = frames (slice_range bytes at end) ≡ with_front (slice_range bytes start stop) (frames (slice_range bytes stop end))

    pub first_row : Behind → IsFrame → (row : Row) (next : ℕ) → rows (slice_range bytes start stop) ≡ with_front row (rows (slice_range bytes next stop))
        → head false bytes ≡ head_checked (place_at n 1) (first_row_checked row)
    unfolding head
    first_row before frame row next e = ap head_on (
        before ∙ file_next n (slice_range bytes at end) (slice_range bytes stop end) (slice_range bytes start stop) frame
        ∙ rows_next n 0 (slice_range bytes start stop) (rows_on (n + 1) (frames (slice_range bytes stop end))) (slice_range bytes next stop) row e)

    pub no_row : Behind → IsFrame → (k : Kind) → rows (slice_range bytes start stop) ≡ record { items = []; fault = Some k } → head false bytes ≡ Head.Bad (fault_at n 1 k)
    unfolding head
    no_row before frame k e = ap head_on (
        before ∙ file_next n (slice_range bytes at end) (slice_range bytes stop end) (slice_range bytes start stop) frame
        ∙ rows_broken n 0 (slice_range bytes start stop) (rows_on (n + 1) (frames (slice_range bytes stop end))) k e)

    pub frame_without_rows : Behind → IsFrame → rows (slice_range bytes start stop) ≡ record { items = []; fault = None }
        → rows_on 1 (frames bytes) ≡ rows_on (n + 1) (frames (slice_range bytes stop end))
    frame_without_rows before frame e =
        before ∙ file_next n (slice_range bytes at end) (slice_range bytes stop end) (slice_range bytes start stop) frame
        ∙ rows_done n 0 (slice_range bytes start stop) (rows_on (n + 1) (frames (slice_range bytes stop end))) e
