-- How a walk over frames comes on, how it ends, and the window that it gives.
use Rattle.std.proofs.Common.{◌≡◌, ℕ, zero, suc, ◌+◌, ◌-◌, ◌<◌, ◌≤◌, ◌||◌, Bool, List, [], ◌∷◌, ◌++◌, length, map, slice_get, slice_range, take, drop, Option, Some, None, Ok, Err, refl, sym, ◌∙◌, ap, subst, append_assoc, append-nil, arith, length-drop, take-append-drop}
use Rattle.std.proofs.lemmas.List.{take_all, take-take, drop-take, length-take-le}
use Rattle.jl_base.specs.Results.{Reading, followed, with_front}
use Rattle.jl_base.specs.Spans.{text_of}
use Rattle.jl_base.specs.declared.kind.Kind.{Kind}
use Rattle.jl_base.specs.declared.place.Span.{Span}
use Rattle.jl_wire.proofs.Ranges.{drop-range}
use Rattle.jl_rows.specs.Files.{body, ends_at, frames}
use Rattle.jl_frames.specs.Index.{Index, AreLaid, bytes_of, end_of, from, last_end}
use Rattle.jl_frames.specs.Feeding.{Feeding, IsWalk, IsWindow}
use Rattle.jl_frames.specs.Windows.{rest, is_lasting, kept_if}
use Rattle.jl_frames.proofs.Fronts.{rest_next, rest_stuck, rest_end}
use Rattle.jl_frames.proofs.IndexLemmas.{body_at, map-snoc}
use Rattle.jl_frames.proofs.Stretches.{laid_above}

laid-snoc : (at : ℕ) (bodies : List Span) (m : ℕ) (body : Span) → AreLaid at bodies m → m < body.at → AreLaid at (bodies ++ body ∷ []) (end_of body)
laid-snoc at [] m body same lt = (omega (arith, same, lt), refl)
laid-snoc at (b ∷ bodies) m body both lt = (both.0, laid-snoc (end_of b) bodies m body both.1 lt)

-- the frames up to a place
pub record Walking (file : List ℕ) (start : ℕ) (bodies : List Span) (at : ℕ) : Type 0 where
  pub inside : at ≤ length file
  pub laid : AreLaid start bodies at
  pub read : frames (from file start) ≡ followed (map (text_of file) bodies) None (frames (from file at))
  pub left : rest (from file start) ≡ rest (from file at)

module _ (file : List ℕ) (start : ℕ) where
  pub walking_none : (bodies : List Span) → bodies ≡ [] → start ≤ length file → Walking file start bodies start
  walking_none bodies none inside = subst (λ (bs : List Span). Walking file start bs start) (sym none) (record { inside = inside; laid = refl; read = refl; left = refl })

  module _ (bodies : List Span) (at : ℕ) (so_far : Walking file start bodies at) where
    module _ (first end : ℕ) (above : at < first) (le : first ≤ end) (within : end ≤ length file)
        (frame : frames (from file at) ≡ with_front (slice_range file first end) (frames (from file end)))
        (read : body (from file at) ≡ Ok (slice_range file first end, end - at)) where
      same_end : end_of (body_at first end) ≡ end
      same_end = omega arith

      text : text_of file (body_at first end) ≡ slice_range file first end
      text = ap (slice_range file first) same_end

      pub walking_next : Walking file start (bodies ++ body_at first end ∷ []) end
      walking_next = record {
        inside = within;
        laid = subst (λ (e : ℕ). AreLaid start (bodies ++ body_at first end ∷ []) e) same_end (laid-snoc start bodies at (body_at first end) so_far.laid above);
        read = so_far.read
            ∙ ap (followed (map (text_of file) bodies) None) frame
            ∙ ap (λ (xs : List (List ℕ)). record { items = xs; fault = (frames (from file end)).fault }) (sym (append_assoc (map (text_of file) bodies) (slice_range file first end ∷ []) (frames (from file end)).items))
            ∙ ap (λ (xs : List (List ℕ)). followed xs None (frames (from file end)))
            (ap (λ (t : List ℕ). map (text_of file) bodies ++ t ∷ []) (sym text) ∙ sym (map-snoc (text_of file) bodies (body_at first end)));
        left = so_far.left ∙ rest_next (from file at) (slice_range file first end, end - at) read ∙ ap rest (drop-range file at end (length file) (omega arith) within);
      }

    pub walk_ends : (fault : Option Kind) → frames (from file at) ≡ record { items = []; fault = fault } → rest (from file at) ≡ from file at → IsWalk file start bodies at fault
    walk_ends fault ended stuck = record {
      inside = so_far.inside;
      laid = so_far.laid;
      read = so_far.read ∙ ap (followed (map (text_of file) bodies) None) ended ∙ ap (λ (xs : List (List ℕ)). record { items = xs; fault = fault }) (append-nil (map (text_of file) bodies));
      rest = so_far.left ∙ stuck;
    }

pub stuck_at_end : (file : List ℕ) (at : ℕ) → at ≡ length file → rest (from file at) ≡ from file at
stuck_at_end file at e =
    let none : length file - at ≡ 0 = omega arith in
    let empty : from file at ≡ [] = rw none refl in
    ap rest empty ∙ rest_end ∙ sym empty

pub stuck_at_fault : (file : List ℕ) (at : ℕ) (k : Kind) → body (from file at) ≡ Err k → rest (from file at) ≡ from file at
stuck_at_fault file at k e = rest_stuck (from file at) k e

pub laid_fit : (at : ℕ) (bodies : List Span) (end i : ℕ) (body : Span) → AreLaid at bodies end → slice_get bodies i ≡ Some body → end_of body ≤ end
laid_fit at [] end i body laid e = absurd (let none = e in (cc))
laid_fit at (b ∷ bodies) end zero body laid e = let same : b ≡ body = (cc) in subst (λ (x : Span). end_of x ≤ end) same (laid_above (end_of b) bodies end laid.1)
laid_fit at (b ∷ bodies) end (suc i) body laid e = laid_fit (end_of b) bodies end i body laid.1 e

-- where the last of some frames ends
pub laid_end : (at : ℕ) (bodies : List Span) (end : ℕ) → AreLaid at bodies end → last_end at bodies ≡ end
laid_end at [] end same = same
laid_end at (b ∷ bodies) end both = laid_end (end_of b) bodies end both.1

no_bodies : (bodies : List Span) → length bodies ≡ 0 → bodies ≡ []
no_bodies [] e = refl
no_bodies (b ∷ bodies) e = absurd (omega (arith, e))

last_ends : (at : ℕ) (bodies : List Span) (i : ℕ) (body : Span) → slice_get bodies i ≡ Some body → length bodies ≡ i + 1 → last_end at bodies ≡ end_of body
last_ends at [] i body e size = absurd (let none = e in (cc))
last_ends at (b ∷ []) zero body e size = let same : b ≡ body = (cc) in ap end_of same
last_ends at (b ∷ c ∷ bodies) zero body e size = absurd (omega (arith, size))
last_ends at (b ∷ bodies) (suc i) body e size = last_ends (end_of b) bodies i body e (omega (arith, size))

pub bytes_none : (index : Index) → length index.bodies ≡ 0 → bytes_of index ≡ 0
bytes_none index e = omega (arith, ap (last_end index.lo) (no_bodies index.bodies e))

pub bytes_some : (index : Index) (i : ℕ) (body : Span) → slice_get index.bodies i ≡ Some body → length index.bodies ≡ i + 1 → bytes_of index ≡ end_of body - index.lo
bytes_some index i body e size = ap (λ (n : ℕ). n - index.lo) (last_ends index.lo index.bodies i body e size)

-- a range in a front
range_of_front : (xs : List ℕ) (i e : ℕ) → i ≤ e → slice_range xs i e ≡ drop i (take e xs)
range_of_front xs i e le =
    let size : i + (e - i) ≡ e = omega (arith, le) in
    sym (drop-take i (e - i) xs) ∙ ap (λ n. drop i (take n xs)) size

in_front : (xs : List ℕ) (i e end : ℕ) → i ≤ e → e ≤ end → slice_range (take end xs) i e ≡ slice_range xs i e
in_front xs i e end le within = range_of_front (take end xs) i e le ∙ ap (drop i) (take-take e end xs within) ∙ sym (range_of_front xs i e le)

texts_in_front : (xs : List ℕ) (at : ℕ) (bodies : List Span) (end : ℕ) → AreLaid at bodies end → map (text_of (take end xs)) bodies ≡ map (text_of xs) bodies
texts_in_front xs at [] end laid = refl
texts_in_front xs at (b ∷ bodies) end laid =
    ap (λ (t : List ℕ). t ∷ map (text_of (take end xs)) bodies) (in_front xs b.at (end_of b) end (omega arith) (laid_above (end_of b) bodies end laid.1))
    ∙ ap (λ (ts : List (List ℕ)). text_of xs b ∷ ts) (texts_in_front xs (end_of b) bodies end laid.1)

whole_from : (xs : List ℕ) (at : ℕ) → take at xs ++ from xs at ≡ xs
whole_from xs at = ap (λ (y : List ℕ). take at xs ++ y) (take_all (length xs - at) (drop at xs) (omega (arith, length-drop at xs))) ∙ take-append-drop at xs

-- it is the last one by the fault of the frames as by the walk's
pub walk_last : (space : List ℕ) (start : ℕ) (bodies : List Span) (end : ℕ) (fault : Option Kind) (at_end last : Bool) → IsWalk space start bodies end fault → last ≡ (at_end || is_lasting fault)
    → last ≡ (at_end || is_lasting (frames (from space start)).fault)
walk_last space start bodies end fault at_end last walk lasts = lasts ∙ ap (λ (R : Reading (List ℕ) Kind). at_end || is_lasting R.fault) (sym walk.read)

-- the window of the bytes of a space from a place on
module _ (feed feed' : Feeding) (space : List ℕ) (start : ℕ) (bodies : List Span) (end : ℕ) (fault : Option Kind) (at_end last : Bool) (index : Index)
    (walk : IsWalk space start bodies end fault) (inside : start ≤ length space) (lasts : last ≡ (at_end || is_lasting fault)) where
  same_fault : (frames (from space start)).fault ≡ fault
  same_fault = ap (λ (R : Reading (List ℕ) Kind). R.fault) walk.read

  pub parted : index.bodies ≡ bodies → index.tail ≡ ends_at (feed.given + 1 + length bodies) 0 (kept_if last fault) → index.lo ≡ start → index.first ≡ feed.given + 1
      → feed'.held ≡ from space end → feed'.window ≡ feed.window → feed'.given ≡ feed.given + length index.bodies → feed'.ended ≡ last
      → (last ≡ (at_end || is_lasting (frames (from space start)).fault)) × IsWindow feed feed' (from space start) (take start space) (take end space) index last
  parted bs tail lo first held window given ended =
      let front : length (take start space) ≡ start = length-take-le start space inside in
      let whole : length (take end space) ≡ end = length-take-le end space walk.inside in
      let number : feed.given + 1 + length bodies ≡ index.first + length index.bodies = omega (arith, first, ap length bs) in (
        walk_last space start bodies end fault at_end last walk lasts,
        record {
          bytes = ap (λ (y : List ℕ). take end space ++ y) walk.rest ∙ whole_from space end ∙ sym (whole_from space start);
          laid = rw (front, whole, bs) walk.laid;
          bodies = ap (map (text_of (take end space))) bs ∙ texts_in_front space start bodies end walk.laid ∙ sym (ap (λ (R : Reading (List ℕ) Kind). R.items) walk.read);
          tail = tail ∙ ap (λ (n : ℕ). ends_at n 0 (kept_if last fault)) number ∙ ap (λ f. ends_at (index.first + length index.bodies) 0 (kept_if last f)) (sym same_fault);
          lo = lo ∙ sym front;
          first = first;
          window = window;
          held = held ∙ sym walk.rest;
          given = given;
          ended = ended;
        },
      )
