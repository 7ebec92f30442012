-- The frames of an index from one to another: where their bodies lie, and their rows.
use Rattle.std.proofs.Common.{◌≡◌, ℕ, zero, suc, ◌+◌, ◌-◌, ◌<◌, ◌≤◌, List, [], ◌∷◌, ◌++◌, length, map, take, drop, slice_get, slice_range, Option, Some, refl, ap, sym, ◌∙◌, subst, arith}
use Rattle.std.proofs.lemmas.List.{length-map, map-append, take-append-drop, take_all}
use Rattle.jl_base.specs.Results.{Reading, joined}
use Rattle.jl_base.specs.Spans.{text_of}
use Rattle.jl_base.specs.declared.kind.Kind.{Kind}
use Rattle.jl_base.specs.declared.place.Fault.{Fault}
use Rattle.jl_base.specs.declared.place.Span.{Span}
use Rattle.jl_wire.proofs.Ranges.{length-range, drop-range, take-range}
use Rattle.jl_rows.specs.Files.{Placed, all_rows, ends_at, frame_rows, frames, rows_from, rows_then}
use Rattle.jl_frames.specs.Index.{Index, AreLaid, IsIndex, end_of, last_end}
use Rattle.jl_frames.specs.Stretches.{between}
use Rattle.jl_frames.proofs.IndexLemmas.{ends_within, laid_frames}

-- A body, by how many stand before it.
pub record IsBodyOf (at : ℕ) (bodies : List Span) (last k : ℕ) (body : Span) : Type 0 where
  pub above : last_end at (take k bodies) < body.at
  pub next : last_end at (take (k + 1) bodies) ≡ end_of body
  pub within : end_of body ≤ last

pub laid_above : (at : ℕ) (bodies : List Span) (last : ℕ) → AreLaid at bodies last → at ≤ last
laid_above at [] last same = omega (arith, same)
laid_above at (b ∷ bodies) last both = omega (arith, both.0, laid_above (end_of b) bodies last both.1)

pub body_of : (at : ℕ) (bodies : List Span) (last k : ℕ) (body : Span) → AreLaid at bodies last → slice_get bodies k ≡ Some body → IsBodyOf at bodies last k body
body_of at [] last k body laid e = absurd (let none = e in (cc))
body_of at (b ∷ bodies) last zero body laid e =
    let same : b ≡ body = (cc) in
    subst (λ (x : Span). IsBodyOf at (b ∷ bodies) last 0 x) same (record { above = laid.0; next = refl; within = laid_above (end_of b) bodies last laid.1 })
body_of at (b ∷ bodies) last (suc k) body laid e =
    let rest = body_of (end_of b) bodies last k body laid.1 e in
    let next : suc k + 1 ≡ suc (k + 1) = omega arith in
    record { above = rest.above; next = ap (λ (n : ℕ). last_end at (take n (b ∷ bodies))) next ∙ rest.next; within = rest.within }

pub laid_last : (at : ℕ) (bodies : List Span) (last k : ℕ) → AreLaid at bodies last → last_end at (take k bodies) ≤ last
laid_last at bodies last zero laid = laid_above at bodies last laid
laid_last at [] last (suc k) same = omega (arith, same)
laid_last at (b ∷ bodies) last (suc k) both = laid_last (end_of b) bodies last k both.1

pub laid_count : (at : ℕ) (bodies : List Span) (last : ℕ) → AreLaid at bodies last → at + length bodies ≤ last
laid_count at [] last same = omega (arith, same)
laid_count at (b ∷ bodies) last both = omega (arith, both.0, laid_count (end_of b) bodies last both.1)

-- more frames end later
pub laid_order : (at : ℕ) (bodies : List Span) (last i k : ℕ) → AreLaid at bodies last → i ≤ k → last_end at (take i bodies) ≤ last_end at (take k bodies)
laid_order at bodies last zero zero laid le = omega arith
laid_order at bodies last (suc i) zero laid le = absurd (omega (arith, le))
laid_order at [] last zero (suc k) laid le = omega arith
laid_order at (b ∷ bodies) last zero (suc k) both le = omega (arith, both.0, laid_order (end_of b) bodies last zero k both.1 (omega arith))
laid_order at [] last (suc i) (suc k) laid le = omega arith
laid_order at (b ∷ bodies) last (suc i) (suc k) both le = laid_order (end_of b) bodies last i k both.1 (omega (arith, le))

-- the body in front of a range
drop_get : (bodies : List Span) (k : ℕ) (body : Span) → slice_get bodies k ≡ Some body → drop k bodies ≡ body ∷ drop (suc k) bodies
drop_get [] k body e = absurd (let none = e in (cc))
drop_get (b ∷ bodies) zero body e = let same : b ≡ body = (cc) in ap (λ (x : Span). x ∷ bodies) same
drop_get (b ∷ bodies) (suc k) body e = drop_get bodies k body e

pub range_next : (bodies : List Span) (k end : ℕ) (body : Span) → k < end → slice_get bodies k ≡ Some body → slice_range bodies k end ≡ body ∷ slice_range bodies (k + 1) end
range_next bodies k end body lt e =
    let size : end - k ≡ suc (end - (k + 1)) = omega (arith, lt) in
    let next : suc k ≡ k + 1 = omega arith in
    ap (λ (n : ℕ). take n (drop k bodies)) size ∙ ap (take (suc (end - (k + 1)))) (drop_get bodies k body e) ∙ ap (λ (n : ℕ). body ∷ take (end - (k + 1)) (drop n bodies)) next

pub range_none : (bodies : List Span) (k end : ℕ) → end ≤ k → slice_range bodies k end ≡ []
range_none bodies k end le = let size : end - k ≡ 0 = omega (arith, le) in ap (λ (n : ℕ). take n (drop k bodies)) size

-- the rows of a frame, and then of those after it
pub between_next : (bytes : List ℕ) (index : Index) (i end : ℕ) (body : Span) (B : Reading Placed Fault) → i < end → slice_get index.bodies i ≡ Some body
    → between bytes index i end B ≡ joined (frame_rows (index.first + i) (text_of bytes body)) (between bytes index (i + 1) end B)
between_next bytes index i end body B lt e =
    let next : index.first + i + 1 ≡ index.first + (i + 1) = omega arith in
    let rest = map (text_of bytes) (slice_range index.bodies (i + 1) end) in
    ap (λ (xs : List Span). rows_then (index.first + i) (map (text_of bytes) xs) B) (range_next index.bodies i end body lt e)
    ∙ ap (λ (n : ℕ). joined (frame_rows (index.first + i) (text_of bytes body)) (rows_then n rest B)) next

pub between_none : (bytes : List ℕ) (index : Index) (i end : ℕ) (B : Reading Placed Fault) → end ≤ i → between bytes index i end B ≡ B
between_none bytes index i end B le = ap (λ (xs : List Span). rows_then (index.first + i) (map (text_of bytes) xs) B) (range_none index.bodies i end le)

-- some frames, and then others
pub then_append : (n m : ℕ) (xs ys : List (List ℕ)) (B : Reading Placed Fault) → m ≡ n + length xs → rows_then n (xs ++ ys) B ≡ rows_then n xs (rows_then m ys B)
then_append n m [] ys B e = let same : n ≡ m = omega (arith, e) in ap (λ (k : ℕ). rows_then k ys B) same
then_append n m (x ∷ xs) ys B e =
    let next : m ≡ (n + 1) + length xs = omega (arith, e) in
    ap (joined (frame_rows n x)) (then_append (n + 1) m xs ys B next)

-- the rows of frames up to one, and of those after it
pub between_split : (bytes : List ℕ) (index : Index) (i k end : ℕ) (B : Reading Placed Fault) → i ≤ k → k ≤ end → end ≤ length index.bodies
    → between bytes index i end B ≡ between bytes index i k (between bytes index k end B)
between_split bytes index i k end B first second within =
    let count : i + (k - i) ≡ k = omega (arith, first) in
    let front : take (k - i) (slice_range index.bodies i end) ≡ slice_range index.bodies i k =
    take-range index.bodies i end (k - i) (omega (arith, first, second)) ∙ ap (λ (n : ℕ). slice_range index.bodies i n) count in
    let rest : drop (k - i) (slice_range index.bodies i end) ≡ slice_range index.bodies k end = drop-range index.bodies i k end first second in
    let parts : slice_range index.bodies i end ≡ slice_range index.bodies i k ++ slice_range index.bodies k end =
    sym (take-append-drop (k - i) (slice_range index.bodies i end)) ∙ ap (λ (xs : List Span). xs ++ drop (k - i) (slice_range index.bodies i end)) front ∙ ap (λ (xs : List Span). slice_range index.bodies i k ++ xs) rest in
    let size : length (slice_range index.bodies i k) ≡ k - i = length-range index.bodies i k first (omega (arith, second, within)) in
    let number : index.first + k ≡ (index.first + i) + length (map (text_of bytes) (slice_range index.bodies i k)) = omega (arith, length-map (slice_range index.bodies i k) (text_of bytes), size, first) in
    ap (λ (xs : List Span). rows_then (index.first + i) (map (text_of bytes) xs) B) parts
    ∙ ap (λ (xs : List (List ℕ)). rows_then (index.first + i) xs B) (map-append (text_of bytes) (slice_range index.bodies i k) (slice_range index.bodies k end))
    ∙ then_append (index.first + i) (index.first + k) (map (text_of bytes) (slice_range index.bodies i k)) (map (text_of bytes) (slice_range index.bodies k end)) B number

-- the rows of frames, and the fault after them
then_tail : (n m : ℕ) (xs : List (List ℕ)) (fault : Option Kind) → m ≡ n + length xs → rows_then n xs (record { items = []; fault = ends_at m 0 fault }) ≡ rows_from n xs fault
unfolding rows_from
then_tail n m [] fault e = let same : m ≡ n = omega (arith, e) in ap (λ (k : ℕ). record { items = []; fault = ends_at k 0 fault }) same
then_tail n m (x ∷ xs) fault e =
    let next : m ≡ (n + 1) + length xs = omega (arith, e) in
    ap (joined (frame_rows n x)) (then_tail (n + 1) m xs fault next)

-- all rows of a file
pub whole_between : (file : List ℕ) (index : Index) → IsIndex file index → between file index 0 (length index.bodies) (record { items = []; fault = index.tail }) ≡ all_rows file
whole_between file index is =
    let all : slice_range index.bodies 0 (length index.bodies) ≡ index.bodies = take_all (length index.bodies - 0) index.bodies (omega arith) in
    let size : length index.bodies ≡ length (frames file).items = sym (length-map index.bodies (text_of file)) ∙ ap length is.bodies in
    let number : length index.bodies + 1 ≡ 1 + length (frames file).items = omega (arith, size) in
    let one : index.first + 0 ≡ 1 = omega (arith, is.first) in
    ap (λ (xs : List Span). rows_then (index.first + 0) (map (text_of file) xs) (record { items = []; fault = index.tail })) all
    ∙ ap (λ (n : ℕ). rows_then n (map (text_of file) index.bodies) (record { items = []; fault = index.tail })) one
    ∙ ap (λ (xs : List (List ℕ)). rows_then 1 xs (record { items = []; fault = index.tail })) is.bodies
    ∙ ap (λ (f : Option Fault). rows_then 1 (frames file).items (record { items = []; fault = f })) is.tail
    ∙ then_tail 1 (length index.bodies + 1) (frames file).items (frames file).fault number

-- the frames of a file's index are laid in it
pub index_laid : (file : List ℕ) (index : Index) → IsIndex file index → (last : ℕ) × AreLaid index.lo index.bodies last × (last ≤ length file)
index_laid file index is =
    let last = last_end 0 index.bodies in
    (last, subst (λ (at : ℕ). AreLaid at index.bodies last) (sym is.lo) (laid_frames file 0 index.bodies last is.places), ends_within file 0 index.bodies last (omega arith) is.places)
