-- What a survey comes to, over the frames of a window.
use Rattle.std.proofs.Common.{◌^◌, ◌≡◌, ℕ, ◌+◌, ◌-◌, ◌*◌, ◌<◌, ◌≤◌, List, [], ◌∷◌, ◌++◌, length, map, take, slice_get, slice_range, Some, ap, sym, ◌∙◌, subst, arith}
use Rattle.std.proofs.lemmas.List.{take_all}
use Rattle.jl_base.specs.Results.{Reading, joined}
use Rattle.jl_base.specs.Spans.{text_of, IsInside}
use Rattle.jl_base.specs.declared.place.Fault.{Fault}
use Rattle.jl_base.specs.declared.place.Span.{Span}
use Rattle.jl_rows.specs.Files.{Placed, frame_rows, rows_then}
use Rattle.jl_frames.specs.Index.{Index, AreLaid, end_of, last_end}
use Rattle.jl_frames.specs.Stretches.{between}
use Rattle.jl_frames.proofs.Stretches.{between_next, between_none, body_of, laid_last, laid_order, range_next, range_none}
use Rattle.jl_survey.specs.declared.numbers.Survey.{Survey}
use Rattle.jl_survey.specs.Surveys.{Surveyed}
use Rattle.jl_survey.proofs.CountLaws.{few_at_start}
use Rattle.jl_survey.specs.Counting.{outlook, AreFew, empty, AreFramesOf, Fits, Grew, HasRoom, size_of}

module _ (bytes : List ℕ) (index : Index) (s : Surveyed) (size : ℕ) (bodies : List (List ℕ)) (B : Reading Placed Fault) where
  abbrev texts : List Span → List (List ℕ)
  texts = map (text_of bytes)

  abbrev count : ℕ
  count = length index.bodies

  -- all frames are left
  pub frames_first : outlook s size (texts index.bodies ++ bodies) (rows_then index.first (texts index.bodies) B) ≡ outlook s size (texts (slice_range index.bodies 0 count) ++ bodies) (between bytes index 0 count B)
  frames_first =
      let all : slice_range index.bodies 0 count ≡ index.bodies = take_all (count - 0) index.bodies (omega arith) in
      let one : index.first ≡ index.first + 0 = omega arith in
      ap (λ (n : ℕ). outlook s size (texts index.bodies ++ bodies) (rows_then n (texts index.bodies) B)) one
      ∙ ap (λ (xs : List Span). outlook s size (texts xs ++ bodies) (rows_then (index.first + 0) (texts xs) B)) (sym all)

  pub frames_next : (i number : ℕ) (body : Span) → i < count → number ≡ index.first + i → slice_get index.bodies i ≡ Some body
      → outlook s size (texts (slice_range index.bodies i count) ++ bodies) (between bytes index i count B)
      ≡ outlook s size (text_of bytes body ∷ (texts (slice_range index.bodies (i + 1) count) ++ bodies)) (joined (frame_rows number (text_of bytes body)) (between bytes index (i + 1) count B))
  frames_next i number body lt same e =
      ap (λ (xs : List Span). outlook s size (texts xs ++ bodies) (between bytes index i count B)) (range_next index.bodies i count body lt e)
      ∙ ap (outlook s size (text_of bytes body ∷ (texts (slice_range index.bodies (i + 1) count) ++ bodies))) (between_next bytes index i count body B lt e)
      ∙ ap (λ (n : ℕ). outlook s size (text_of bytes body ∷ (texts (slice_range index.bodies (i + 1) count) ++ bodies)) (joined (frame_rows n (text_of bytes body)) (between bytes index (i + 1) count B))) (sym same)

  pub frames_done : (i : ℕ) → count ≤ i → outlook s size (texts (slice_range index.bodies i count) ++ bodies) (between bytes index i count B) ≡ outlook s size bodies B
  frames_done i le =
      ap (λ (xs : List Span). outlook s size (texts xs ++ bodies) (between bytes index i count B)) (range_none index.bodies i count le)
      ∙ ap (outlook s size bodies) (between_none bytes index i count B le)

laid_end : (at : ℕ) (bodies : List Span) (last : ℕ) → AreLaid at bodies last → last_end at bodies ≡ last
laid_end at [] last same = same
laid_end at (b ∷ bodies) last both = laid_end (end_of b) bodies last both.1

-- how far the frames up to one reach
pub record IsWithin (bytes : List ℕ) (index : Index) (i : ℕ) (body : Span) : Type 0 where
  pub inside : IsInside bytes body
  pub next : last_end index.lo (take (i + 1) index.bodies) - index.lo ≡ body.at + body.len - index.lo
  pub above : last_end index.lo (take i index.bodies) - index.lo + (body.len + 1) ≤ body.at + body.len - index.lo
  pub within : body.at + body.len - index.lo ≤ size_of index

pub within_of : (bytes : List ℕ) (index : Index) (i : ℕ) (body : Span) → AreFramesOf bytes index → slice_get index.bodies i ≡ Some body → IsWithin bytes index i body
within_of bytes index i body laid e =
    let one = body_of index.lo index.bodies laid.0 i body laid.1 e in
    let start : index.lo ≤ last_end index.lo (take i index.bodies) = laid_order index.lo index.bodies laid.0 0 i laid.1 (omega arith) in
    let end : last_end index.lo index.bodies ≡ laid.0 = laid_end index.lo index.bodies laid.0 laid.1 in
    let above = one.above in
    let within = one.within in
    let next = one.next in
    record {
      inside = omega (arith, within, laid.2);
      next = ap (λ (n : ℕ). n - index.lo) next;
      above = omega (arith, start, above);
      within = omega (arith, within, end);
    }

-- the frames so far left room for more
pub fits_more : (n m k : ℕ) (s t : Survey) → Fits n s → Grew m s t → m + k ≤ n → Fits k t
fits_more n m k s t room grew le = let small = room.2 in (room.0 + m, grew room.0 room.1, omega (arith, small, le))

-- the first frames take no more bytes than all
pub part_of : (bytes : List ℕ) (index : Index) (i : ℕ) → AreFramesOf bytes index → last_end index.lo (take i index.bodies) - index.lo ≤ size_of index
part_of bytes index i laid =
    let end : last_end index.lo index.bodies ≡ laid.0 = laid_end index.lo index.bodies laid.0 laid.1 in
    let within = laid_last index.lo index.bodies laid.0 i laid.1 in
    omega (arith, end, within)

-- the bytes of a window are counted last
pub window_few : (n : ℕ) (s t u : Survey) → Grew (2 * n) s t → t.bytes ≡ s.bytes → u ≡ record t { bytes = t.bytes + n } → Grew (2 * n) s u
window_few n s t u grew same is most few =
    let all = grew most few in
    let old = few.bytes in
    subst (AreFew (most + 2 * n)) (sym is) (record {
      bytes = omega (arith, old, same);
      frames = all.frames;
      metadata = all.metadata;
      option_rows = all.option_rows;
      triples = all.triples;
      quads = all.quads;
      graph_starts = all.graph_starts;
      graph_ends = all.graph_ends;
      namespaces = all.namespaces;
      names = all.names;
      prefixes = all.prefixes;
      datatypes = all.datatypes;
    })

-- a new survey has room for any window of bytes that aren't too many
pub room_at_start : (bytes : List ℕ) (index : Index) (s : Survey) → s ≡ empty → AreFramesOf bytes index → length bytes < 2 ^ 63 → HasRoom (size_of index) s
room_at_start bytes index s is laid short =
    let end : last_end index.lo index.bodies ≡ laid.0 = laid_end index.lo index.bodies laid.0 laid.1 in
    let within = laid.2 in
    (0, subst (AreFew 0) (sym is) few_at_start, omega (arith, end, within, short))
