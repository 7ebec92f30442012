-- Laws of frames: how long they are, and how they follow one another.
use Rattle.std.proofs.Common.{◌≡◌, ℕ, zero, suc, ◌+◌, ◌-◌, ◌<◌, ◌≤◌, List, [], ◌∷◌, length, take, drop, slice_range, Some, None, Ok, Err, true, false, nat_lt, if◌then◌else◌, refl, ◌∙◌, ap, arith, length-drop}
use Rattle.std.proofs.lemmas.Bool.{ltb-false, le-ltb, lt-ltb}
use Rattle.std.proofs.lemmas.List.{length-take-le}
use Rattle.jl_base.specs.Results.{with_front}
use Rattle.jl_base.specs.declared.kind.Kind.{Kind}
use Rattle.jl_base.specs.declared.kind.Kind.TheVariants.{Truncated, FrameTooLong}
use Rattle.jl_wire.specs.Varint.{varint}
use Rattle.jl_wire.proofs.Bound.{bound, let_through}
use Rattle.jl_wire.proofs.Ranges.{length-range, drop-range, take-range}
use Rattle.jl_wire.proofs.FieldLaws.{varint_size}
use Rattle.jl_rows.specs.Files.{body, body_behind, most_body, frames_after, frames}

-- How long a frame is: it takes at least its length, no more than the bytes, and its body is shorter.
pub record IsFrameSized (bytes : List ℕ) (f : List ℕ × ℕ) : Type 0 where
  pub above : 0 < f.1
  pub within : f.1 ≤ length bytes
  pub shorter : length f.0 < f.1

pub frame_size : (bytes : List ℕ) (f : List ℕ × ℕ) → body bytes ≡ Ok f → IsFrameSized bytes f
frame_size bytes f e =
    let len = bound (varint bytes) (body_behind bytes) f e in
    let sizes = varint_size bytes len.value len.was in
    let short = let_through (nat_lt most_body len.value.0) FrameTooLong (if nat_lt (length bytes - len.value.1) len.value.0 then Err Truncated else Ok (take len.value.0 (drop len.value.1 bytes), len.value.1 + len.value.0)) f len.next in
    let through = let_through (nat_lt (length bytes - len.value.1) len.value.0) Truncated (Ok (take len.value.0 (drop len.value.1 bytes), len.value.1 + len.value.0)) f short.1 in
    let enough = ltb-false (length bytes - len.value.1) len.value.0 through.0 in
    let same : ◌≡◌ {A = List ℕ × ℕ} (take len.value.0 (drop len.value.1 bytes), len.value.1 + len.value.0) f = let h = through.1 in cc in
    let text : take len.value.0 (drop len.value.1 bytes) ≡ f.0 = ap (λ (p : List ℕ × ℕ). p.0) same in
    let size : len.value.1 + len.value.0 ≡ f.1 = ap (λ (p : List ℕ × ℕ). p.1) same in
    record {
      above = omega (arith, sizes);
      within = omega (arith, sizes);
      shorter = omega (arith, sizes, ap length text, length-take-le len.value.0 (drop len.value.1 bytes) (omega (arith, sizes, length-drop len.value.1 bytes)));
    }

-- skipping bytes one by one is leaving them out
skipped : (skip : ℕ) (bytes : List ℕ) → frames_after skip bytes ≡ frames_after 0 (drop skip bytes)
unfolding frames_after
skipped zero bytes = refl
skipped (suc skip) [] = refl
skipped (suc skip) (b ∷ bytes) = skipped skip bytes

-- no bytes have no frames; a fault in front ends them; and behind the frame in front stand the others
pub frames_end : frames [] ≡ record { items = []; fault = None }
unfolding frames_after
frames_end = refl

pub frames_fault : (bytes : List ℕ) (k : Kind) → 0 < length bytes → body bytes ≡ Err k → frames bytes ≡ record { items = []; fault = Some k }
unfolding frames_after
frames_fault [] k some e = absurd (omega arith)
frames_fault (b ∷ bytes) k some e = rw e refl

in_front : (bytes : List ℕ) (f : List ℕ × ℕ) → body bytes ≡ Ok f → IsFrameSized bytes f → frames bytes ≡ with_front f.0 (frames (drop f.1 bytes))
unfolding frames_after
in_front [] f e sized = absurd (omega (arith, sized.above, sized.within))
in_front (b ∷ bytes) f e sized =
    let size : f.1 ≡ suc (f.1 - 1) = omega (arith, sized.above) in
    let behind : frames_after 0 (drop f.1 (b ∷ bytes)) ≡ frames_after 0 (drop (f.1 - 1) bytes) = ap (λ n. frames_after 0 (drop n (b ∷ bytes))) size in
    rw (e, skipped (f.1 - 1) bytes, behind) refl

pub frames_next : (bytes : List ℕ) (f : List ℕ × ℕ) → body bytes ≡ Ok f → frames bytes ≡ with_front f.0 (frames (drop f.1 bytes))
frames_next bytes f e = in_front bytes f e (frame_size bytes f e)

-- the same in a range of bytes, as next_frame reads them
module _ (bytes : List ℕ) (at end : ℕ) where
  pub frames_at_end : at ≡ end → frames (slice_range bytes at end) ≡ record { items = []; fault = None }
  frames_at_end e =
      let none : end - at ≡ 0 = omega arith in
      let empty : slice_range bytes at end ≡ [] = rw none refl in
      rw empty frames_end

  pub frames_at_fault : (k : Kind) → at < end → end ≤ length bytes → body (slice_range bytes at end) ≡ Err k → frames (slice_range bytes at end) ≡ record { items = []; fault = Some k }
  frames_at_fault k lt inside e =
      let some : 0 < length (slice_range bytes at end) = omega (arith, length-range bytes at end (omega arith) inside) in
      frames_fault (slice_range bytes at end) k some e

  -- no length
  pub no_length : (k : Kind) → varint (slice_range bytes at end) ≡ Err k → body (slice_range bytes at end) ≡ Err k
  no_length k said = rw said refl

  -- a length that no frame may have
  pub too_long : (start len : ℕ) → most_body < len → varint (slice_range bytes at end) ≡ Ok (len, start - at) → body (slice_range bytes at end) ≡ Err FrameTooLong
  too_long start len long said =
      let more : nat_lt most_body len ≡ true = lt-ltb most_body len long in
      rw (said, more) refl

  -- a length past the end
  pub cut_off : (start len : ℕ) → len ≤ most_body → at < start → start ≤ end → end ≤ length bytes → end - start < len → varint (slice_range bytes at end) ≡ Ok (len, start - at) → body (slice_range bytes at end) ≡ Err Truncated
  cut_off start len most lt le inside past said =
      let short : nat_lt most_body len ≡ false = le-ltb most_body len most in
      let whole : length (slice_range bytes at end) ≡ end - at = length-range bytes at end (omega arith) inside in
      let few : nat_lt (length (slice_range bytes at end) - (start - at)) len ≡ true = lt-ltb (length (slice_range bytes at end) - (start - at)) len (omega arith) in
      rw (said, short, few) refl

  -- a whole frame
  pub whole_body : (start len : ℕ) → len ≤ most_body → at < start → start ≤ end → end ≤ length bytes → len ≤ end - start → varint (slice_range bytes at end) ≡ Ok (len, start - at)
      → body (slice_range bytes at end) ≡ Ok (slice_range bytes start (start + len), start + len - at)
  whole_body start len most lt le inside fits said =
      let short : nat_lt most_body len ≡ false = le-ltb most_body len most in
      let before : at ≤ start = omega arith in
      let whole : length (slice_range bytes at end) ≡ end - at = length-range bytes at end (omega arith) inside in
      let enough : nat_lt (length (slice_range bytes at end) - (start - at)) len ≡ false = le-ltb (length (slice_range bytes at end) - (start - at)) len (omega arith) in
      let text : take len (drop (start - at) (slice_range bytes at end)) ≡ slice_range bytes start (start + len) =
      ap (take len) (drop-range bytes at start end before le) ∙ take-range bytes start end len (omega arith) in
      let size : (start - at) + len ≡ start + len - at = omega arith in
      rw (said, short, enough, text, size) refl

  pub whole_frame : (start stop : ℕ) → at < start → start ≤ stop → stop ≤ end → body (slice_range bytes at end) ≡ Ok (slice_range bytes start stop, stop - at)
      → frames (slice_range bytes at end) ≡ with_front (slice_range bytes start stop) (frames (slice_range bytes stop end))
  whole_frame start stop lt le inside read =
      rw (← drop-range bytes at stop end (omega arith) inside) (frames_next (slice_range bytes at end) (slice_range bytes start stop, stop - at) read)
