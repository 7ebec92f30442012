-- How an index grows by a frame, and how it ends.
use Rattle.std.proofs.Common.{◌≡◌, ℕ, zero, suc, ◌+◌, ◌-◌, ◌^◌, ◌<◌, ◌≤◌, List, [], ◌∷◌, ◌++◌, length, map, slice_get, slice_range, take, Option, Some, None, refl, sym, ◌∙◌, ap, subst, append_assoc, append-nil, arith}
use Rattle.std.proofs.lemmas.List.{take_all}
use Rattle.jl_base.specs.Results.{Reading, followed, with_front}
use Rattle.jl_base.specs.Spans.{text_of}
use Rattle.jl_base.specs.declared.kind.Kind.{Kind}
use Rattle.jl_base.specs.declared.place.Span.{Span}
use Rattle.jl_rows.specs.Files.{frames, ends_at}
use Rattle.jl_rows.proofs.FileLaws.{whole_range}
use Rattle.jl_frames.specs.Index.{IsIndex, IsFrameAt, AreFrames, AreLaid, AreFit, end_of, from, last_end}

-- The frames up to a place.
pub record Indexed (file : List ℕ) (bodies : List Span) (at : ℕ) : Type 0 where
  pub inside : at ≤ length file
  pub read : frames file ≡ followed (map (text_of file) bodies) None (frames (from file at))
  pub places : AreFrames file 0 bodies at
  pub last : last_end 0 bodies ≡ at

abbrev pub body_at : ℕ → ℕ → Span
body_at start end = record { at = start; len = end - start }

pub map-snoc : {A B : Type 0} (f : A → B) (xs : List A) (x : A) → map f (xs ++ x ∷ []) ≡ map f xs ++ f x ∷ []
map-snoc f [] x = refl
map-snoc f (y ∷ xs) x = ap (λ ys. f y ∷ ys) (map-snoc f xs x)

last_end-snoc : (at : ℕ) (bodies : List Span) (body : Span) → last_end at (bodies ++ body ∷ []) ≡ end_of body
last_end-snoc at [] body = refl
last_end-snoc at (b ∷ bodies) body = last_end-snoc (end_of b) bodies body

frames-snoc : (file : List ℕ) (at : ℕ) (bodies : List Span) (m : ℕ) (body : Span) → AreFrames file at bodies m → IsFrameAt file m body → AreFrames file at (bodies ++ body ∷ []) (end_of body)
frames-snoc file at [] m body same here = (subst (λ (n : ℕ). IsFrameAt file n body) (sym same) here, refl)
frames-snoc file at (b ∷ bodies) m body both here = (both.0, frames-snoc file (end_of b) bodies m body both.1 here)

module _ (file : List ℕ) where
  pub indexed_none : Indexed file [] 0
  indexed_none =
      let whole : slice_range file 0 (length file) ≡ file = whole_range file (length file) refl in
      record {
        inside = omega arith;
        read = sym (ap frames whole);
        places = refl;
        last = refl;
      }

  module _ (bodies : List Span) (at : ℕ) (so_far : Indexed file bodies at) where
    module _ (start end : ℕ) (above : at < start) (le : start ≤ end) (within : end ≤ length file)
        (frame : frames (from file at) ≡ with_front (slice_range file start end) (frames (slice_range file end (length file)))) where
      same_end : end_of (body_at start end) ≡ end
      same_end = omega arith

      here : IsFrameAt file at (body_at start end)
      here = record {
        above = above;
        within = omega arith;
        frame = frame ∙ sym (ap (λ (e : ℕ). with_front (slice_range file start e) (frames (slice_range file e (length file)))) same_end);
      }

      pub indexed_next : Indexed file (bodies ++ body_at start end ∷ []) end
      indexed_next = record {
        inside = within;
        read = so_far.read
            ∙ ap (followed (map (text_of file) bodies) None) frame
            ∙ ap (λ (xs : List (List ℕ)). record { items = xs; fault = (frames (from file end)).fault }) (sym (append_assoc (map (text_of file) bodies) (slice_range file start end ∷ []) (frames (from file end)).items))
            ∙ ap (λ (xs : List (List ℕ)). followed xs None (frames (from file end)))
            (ap (λ (e : ℕ). map (text_of file) bodies ++ slice_range file start e ∷ []) (sym same_end) ∙ sym (map-snoc (text_of file) bodies (body_at start end)));
        places = subst (λ (e : ℕ). AreFrames file 0 (bodies ++ body_at start end ∷ []) e) same_end (frames-snoc file 0 bodies at (body_at start end) so_far.places here);
        last = last_end-snoc 0 bodies (body_at start end) ∙ same_end;
      }

    pub indexed_whole : (fault : Option Kind) → frames (from file at) ≡ record { items = []; fault = fault } → IsIndex file (record { bodies = bodies; tail = ends_at (length bodies + 1) 0 fault; lo = 0; first = 1 })
    indexed_whole fault rest =
        let all : frames file ≡ record { items = map (text_of file) bodies; fault = fault } =
        so_far.read ∙ ap (followed (map (text_of file) bodies) None) rest ∙ ap (λ (xs : List (List ℕ)). record { items = xs; fault = fault }) (append-nil (map (text_of file) bodies)) in
        let same : (frames file).fault ≡ fault = ap (λ (r : Reading (List ℕ) Kind). r.fault) all in
        record {
          lo = refl;
          first = refl;
          bodies = sym (ap (λ (r : Reading (List ℕ) Kind). r.items) all);
          tail = ap (ends_at (length bodies + 1) 0) (sym same);
          places = subst (λ (e : ℕ). AreFrames file 0 bodies e) (sym so_far.last) so_far.places;
          rest = ap (λ (e : ℕ). frames (from file e)) so_far.last ∙ rest ∙ ap (λ (f : Option Kind). record { items = []; fault = f }) (sym same);
        }

-- bodies inside a file end where the file does, or before
pub are_fit : (file : List ℕ) (at : ℕ) (bodies : List Span) (m : ℕ) → length file < 2 ^ 64 → AreFrames file at bodies m → AreFit bodies
are_fit file at [] m small all i body e = absurd (let none = e in (cc))
are_fit file at (b ∷ bodies) m small all zero body e =
    let same : b ≡ body = (cc) in
    let within : end_of b ≤ length file = all.0.within in
    subst (λ (x : Span). end_of x < 2 ^ 64) same (omega (arith, within, small))
are_fit file at (b ∷ bodies) m small all (suc i) body e = are_fit file (end_of b) bodies m small all.1 i body e

-- A frame of an index, by its number of frames before it.
pub record IsFrameOf (file : List ℕ) (bodies : List Span) (k : ℕ) (body : Span) : Type 0 where
  pub here : IsFrameAt file (last_end 0 (take k bodies)) body
  pub next : last_end 0 (take (k + 1) bodies) ≡ end_of body

frame_from : (file : List ℕ) (at : ℕ) (bodies : List Span) (m k : ℕ) (body : Span) → AreFrames file at bodies m → slice_get bodies k ≡ Some body
    → IsFrameAt file (last_end at (take k bodies)) body × (last_end at (take (suc k) bodies) ≡ end_of body)
frame_from file at [] m k body all e = absurd (let none = e in (cc))
frame_from file at (b ∷ bodies) m zero body all e = let same : b ≡ body = (cc) in subst (λ (x : Span). IsFrameAt file at x × (end_of b ≡ end_of x)) same (all.0, refl)
frame_from file at (b ∷ bodies) m (suc k) body all e = frame_from file (end_of b) bodies m k body all.1 e

pub frame_of : (file : List ℕ) (bodies : List Span) (m k : ℕ) (body : Span) → AreFrames file 0 bodies m → slice_get bodies k ≡ Some body → IsFrameOf file bodies k body
frame_of file bodies m k body all e =
    let found = frame_from file 0 bodies m k body all e in
    let next : k + 1 ≡ suc k = omega arith in
    record { here = found.0; next = ap (λ (n : ℕ). last_end 0 (take n bodies)) next ∙ found.1 }

pub behind_all : (bodies : List Span) (k : ℕ) → length bodies ≡ k → last_end 0 (take k bodies) ≡ last_end 0 bodies
behind_all bodies k same = ap (last_end 0) (take_all k bodies (omega (arith, same)))

-- frames that follow one another are laid so, and end within the file
pub laid_frames : (file : List ℕ) (at : ℕ) (bodies : List Span) (end : ℕ) → AreFrames file at bodies end → AreLaid at bodies end
laid_frames file at [] end all = all
laid_frames file at (b ∷ bodies) end all = (all.0.above, laid_frames file (end_of b) bodies end all.1)

pub ends_within : (file : List ℕ) (at : ℕ) (bodies : List Span) (end : ℕ) → at ≤ length file → AreFrames file at bodies end → end ≤ length file
ends_within file at [] end le all = omega (arith, le, all)
ends_within file at (b ∷ bodies) end le all = ends_within file (end_of b) bodies end all.0.within all.1
