-- What a feed took and put after a space.
use Rattle.std.proofs.Common.{◌≡◌, ℕ, ◌+◌, ◌-◌, ◌<◌, ◌≤◌, ◌||◌, Bool, true, false, List, [], ◌++◌, length, take, drop, max, nat_lt, cond, Result, Ok, Err, refl, sym, ◌∙◌, ap, subst, append_assoc, take_at, drop_at, take-add, length-append, length-drop, arith, inl, inr}
use Rattle.std.proofs.lemmas.List.{take_all, take-take}
use Rattle.jl_base.specs.Causes.{Rose}
use Rattle.jl_base.specs.Sources.{Told, Reads}
use Rattle.jl_base.specs.Results.{Reading}
use Rattle.jl_base.specs.declared.kind.Kind.{Kind}
use Rattle.jl_base.specs.declared.kind.Kind.TheVariants.{Truncated, FrameTooLong}
use Rattle.jl_base.specs.declared.space.FillFault.{FillFault}
use Rattle.jl_base.specs.declared.space.FillFault.TheVariants.{ReadFault, TooLong, NoMemory}
use Rattle.jl_base.proofs.SourceLemmas.{Reads-append}
use Rattle.jl_wire.specs.Varint.{varint}
use Rattle.jl_wire.proofs.Bound.{bound, let_through}
use Rattle.jl_rows.specs.Files.{body, body_behind, most_body, frames}
use Rattle.jl_rows.proofs.FrameLaws.{frames_fault}
use Rattle.jl_frames.specs.Index.{bytes_of, from}
use Rattle.jl_frames.specs.Feeding.{Feeding, HasWindow, IsBelow, IsRefused, IsShort, IsTaken, IsTakenIn, IsWindow, Takes, TakesIn}
use Rattle.jl_frames.specs.Windows.{rest, first_size, size_by, is_lasting, wanted}
use Rattle.jl_frames.specs.declared.feed.Window.{Window}
use Rattle.jl_frames.proofs.Fronts.{front, rest_next}
use Rattle.jl_frames.proofs.Stretches.{laid_above}
use Rattle.jl_frames.proofs.WalkLemmas.{laid_end}
use Rattle.jl_frames.proofs.WindowLaws.{wanted_stays, solid, rest_shorter}

-- what stood there is a prefix still
pub front_kept : (old x y new : List ℕ) → new ≡ (old ++ x) ++ y → take (length old) new ≡ old
front_kept old x y new e = ap (take (length old)) (e ∙ append_assoc old x y) ∙ take_at old (x ++ y) (length old) refl

pub front_one : (old x new : List ℕ) → new ≡ old ++ x → take (length old) new ≡ old
front_one old x new e = ap (take (length old)) e ∙ take_at old x (length old) refl

-- what stands after the first bytes of a space
pub from_after : (old x new : List ℕ) (at : ℕ) → at ≡ length old → new ≡ old ++ x → from new at ≡ x
from_after old x new at here e =
    let size : length new - at ≡ length x = omega (arith, here, ap length e, length-append old x) in
    ap (λ n. take n (drop at new)) size ∙ ap (λ (y : List ℕ). take (length x) (drop at y)) e ∙ ap (take (length x)) (drop_at old x at (sym here)) ∙ take_all (length x) x (omega arith)

take_after : (x y : List ℕ) (n m : ℕ) → m ≡ length x + n → x ++ take n y ≡ take m (x ++ y)
take_after x y n m e =
    ap (λ (z : List ℕ). z ++ take n y) (sym (take_at x y (length x) refl))
    ∙ ap (λ (z : List ℕ). take (length x) (x ++ y) ++ take n z) (sym (drop_at x y (length x) refl))
    ∙ sym (take-add (length x) n (x ++ y)) ∙ ap (λ (k : ℕ). take k (x ++ y)) (sym e)

-- bytes were taken, and then further ones weren't had
module _ (TooFew TooFew' : List ℕ → Type 0) (x : List ℕ) (goes : (y : List ℕ) → TooFew y → TooFew' (x ++ y)) (b t t' : Told) (left left1 left2 : ℕ) (steady : t.faults ≡ b.faults) (sum : left ≡ length x + left1) where
  pub refused_then : (y : List ℕ) (fault : FillFault) → IsRefused TooFew t t' left1 left2 y fault → IsRefused TooFew' b t' left left2 (x ++ y) fault
  refused_then y ReadFault r = (subst (λ (n : ℕ). Rose n t'.faults) steady r.0, omega (arith, sum, r.1, length-append x y), goes y r.2)
  refused_then y TooLong r = (r.0, omega (arith, sum, r.1, length-append x y), r.2 ∙ steady, subst TooFew' (take_after x y left1 left sum) (goes (take left1 y) r.3))
  refused_then y NoMemory r = (omega (arith, sum, r.0, length-append x y), r.1 ∙ steady)

-- the bytes up to the size of a window
module _ (feed : Feeding) (b t : Told) (left left1 : ℕ) (old s0 s1 : List ℕ) (end : ℕ) (put : s0 ≡ old ++ feed.held) (ends : end ≡ length old + feed.window) where
  below : (y : List ℕ) → length s0 + length y < end → IsShort feed y
  below y lt = omega (arith, lt, ends, ap length put, length-append old feed.held, length-append feed.held y)

  pub took_refused : (fault : FillFault) → Takes end b t left left1 s0 s1 (Err fault) → TakesIn feed b t left left1 old s1 (Err fault)
  took_refused fault took = record {
    taken = took.taken;
    reads = took.reads;
    cause = (
      sym (take-take (length old) (length s0) s1 (omega (arith, ap length put, length-append old feed.held))) ∙ ap (take (length old)) (took.cause.0 ∙ put) ∙ take_at old feed.held (length old) refl,
      refused_then (IsBelow end s0) (IsShort feed) [] below b b t left left left1 refl (omega arith) took.taken fault took.cause.1,
    );
  }

  pub took_all : Takes end b t left left1 s0 s1 (Ok true) → TakesIn feed b t left left1 old s1 (Ok true)
  took_all took =
      let all = took.cause.0 in record {
        taken = took.taken;
        reads = took.reads;
        cause = (
          subst (λ (s : List ℕ). IsTaken b t left left1 took.taken s s1) put all,
          (below took.taken (omega (arith, took.cause.1.0, ap length all.appended, length-append s0 took.taken)), took.cause.1.1),
        );
      }

-- and then those of a first frame that is longer
module _ (feed : Feeding) (b t t' : Told) (left left1 left2 : ℕ) (old s0 s1 s2 t1 : List ℕ) (end : ℕ) (put : s0 ≡ old ++ feed.held)
    (big : 16 ≤ feed.window) (small : length feed.held ≤ feed.window) (reads : Reads b t t1) (first : IsTaken b t left left1 t1 s0 s1)
    (size : length s1 ≡ max (length old + feed.window) (length s0)) (ends : end ≡ length old + first_size (feed.held ++ t1)) where
  abbrev all1 : List ℕ
  all1 = feed.held ++ t1

  here : s1 ≡ old ++ all1
  here = first.appended ∙ ap (λ (x : List ℕ). x ++ t1) put ∙ append_assoc old feed.held t1

  full : length s1 ≡ length old + feed.window
  full = omega (arith, size, small, ap length put, length-append old feed.held)

  long : length all1 ≡ feed.window
  long = omega (arith, ap length here, length-append old all1, full)

  wants : (y : List ℕ) → wanted feed.window (feed.held ++ (t1 ++ y)) ≡ max feed.window (first_size all1)
  wants y = ap (wanted feed.window) (sym (append_assoc feed.held t1 y)) ∙ wanted_stays all1 y feed.window (omega (arith, long, big))

  total : (y : List ℕ) → length (feed.held ++ (t1 ++ y)) ≡ feed.window + length y
  total y = ap length (sym (append_assoc feed.held t1 y)) ∙ omega (arith, long, length-append all1 y)

  too_few : (y : List ℕ) → length s1 + length y < end → IsShort feed (t1 ++ y)
  too_few y lt = omega (arith, lt, ends, full, total y, wants y)

  taken_on : (y : List ℕ) → IsTaken t t' left1 left2 y s1 s2 → IsTaken b t' left left2 (t1 ++ y) (old ++ feed.held) s2
  taken_on y took = record {
    appended = took.appended ∙ ap (λ (x : List ℕ). x ++ y) (first.appended ∙ ap (λ (x : List ℕ). x ++ t1) put) ∙ append_assoc (old ++ feed.held) t1 y;
    counted = omega (arith, first.counted, took.counted, length-append t1 y);
    steady = took.steady ∙ first.steady;
  }

  pub took_more : (result : Result Bool FillFault) → Takes end t t' left1 left2 s1 s2 result → TakesIn feed b t' left left2 old s2 result
  took_more (Ok true) took =
      let all = took.cause.0 in record {
        taken = t1 ++ took.taken;
        reads = Reads-append b t t' t1 took.taken reads took.reads;
        cause = (taken_on took.taken all, (too_few took.taken (omega (arith, took.cause.1.0, ap length all.appended, length-append s1 took.taken)), took.cause.1.1));
      }
  took_more (Ok false) took =
      let all = took.cause.0 in record {
        taken = t1 ++ took.taken;
        reads = Reads-append b t t' t1 took.taken reads took.reads;
        cause = (taken_on took.taken all, omega (arith, took.cause.1, ap length all.appended, length-append s1 took.taken, ends, full, total took.taken, wants took.taken));
      }
  took_more (Err fault) took = record {
    taken = t1 ++ took.taken;
    reads = Reads-append b t t' t1 took.taken reads took.reads;
    cause = (
      sym (take-take (length old) (length s1) s2 (omega (arith, full))) ∙ ap (take (length old)) (took.cause.0 ∙ here) ∙ take_at old all1 (length old) refl,
      refused_then (IsBelow end s1) (IsShort feed) t1 too_few b t t' left left1 left2 first.steady first.counted took.taken fault took.cause.1,
    );
  }

-- the first frame takes as many bytes as its length says
first_of_body : (x : List ℕ) (f : List ℕ × ℕ) → body x ≡ Ok f → first_size x ≡ f.1
first_of_body x f e =
    let len = bound (varint x) (body_behind x) f e in
    let rest_of = cond {A = Result (List ℕ × ℕ) Kind} (nat_lt (length x - len.value.1) len.value.0) (Err Truncated) (Ok (take len.value.0 (drop len.value.1 x), len.value.1 + len.value.0)) in
    let short = let_through (nat_lt most_body len.value.0) FrameTooLong rest_of f len.next in
    let through = let_through (nat_lt (length x - len.value.1) len.value.0) Truncated (Ok (take len.value.0 (drop len.value.1 x), len.value.1 + len.value.0)) f short.1 in
    let same : ◌≡◌ {A = List ℕ × ℕ} (take len.value.0 (drop len.value.1 x), len.value.1 + len.value.0) f = let h = through.1 in cc in
    ap size_by len.was ∙ rw short.0 (ap (λ (p : List ℕ × ℕ). p.1) same)

-- what is left of a window that isn't the last one is no longer than a window, and shorter than this one was
module _ (size : ℕ) (all : List ℕ) (big : 16 ≤ size) where
  small_by : length all ≡ wanted size all → is_lasting (frames all).fault ≡ false → (length (rest all) ≤ size) × (length (rest all) < length all)
  small_by whole none =
      let less = rest_shorter all size big (omega (arith, whole)) none in (
        elim (solid all size big (omega (arith, whole))) [
          | inl f ↦ (
              let first = first_of_body all f.0 f.1 in
              let left = (front (drop f.0.1 all)).within in
              omega (arith, less, whole, first, left, ap length (rest_next all f.0 f.1), length-drop f.0.1 all))
          | inr never ↦ absurd (
              let ends = frames_fault all never.0 (omega (arith, whole, big)) never.1 in
              let l = sym none ∙ ap (λ (r : Reading (List ℕ) Kind). is_lasting r.fault) ends ∙ never.2 in
              (cc))
        ],
        less,
      )

  pub window_small : (at_end last : Bool) → (at_end ≡ false → length all ≡ wanted size all) → last ≡ (at_end || is_lasting (frames all).fault) → last ≡ false
      → (length (rest all) ≤ size) × (length (rest all) < length all)
  window_small true last whole is none = absurd (let never = sym is ∙ none in (cc))
  window_small false last whole is none = small_by (whole refl) (sym is ∙ none)

pub is_whole : (size : ℕ) (all : List ℕ) (after : Told) (at_end : Bool) → IsTakenIn size all after at_end → at_end ≡ false → length all ≡ wanted size all
is_whole size all after true taken e = absurd (cc)
is_whole size all after false taken e = taken

-- the window of what was taken
pub has_window : (feed feed' : Feeding) (b t : Told) (left left' : ℕ) (taken old new : List ℕ) (w : Window) (at_end : Bool) → 16 ≤ feed.window → IsTakenIn feed.window (feed.held ++ taken) t at_end
    → left ≡ length taken + left' → t.faults ≡ b.faults → w.last ≡ (at_end || is_lasting (frames (feed.held ++ taken)).fault) → IsWindow feed feed' (feed.held ++ taken) old new w.frames w.last
    → HasWindow feed feed' b t left left' taken old new w
has_window feed feed' b t left left' taken old new w at_end big whole counted steady last window =
    let all = feed.held ++ taken in
    let above = laid_above (length old) w.frames.bodies (length new) window.laid in
    let ends = ap (λ (n : ℕ). bytes_of (record { bodies = w.frames.bodies; tail = w.frames.tail; lo = n; first = w.frames.first })) window.lo in
    let size : bytes_of w.frames ≡ length new - length old = ends ∙ ap (λ (n : ℕ). n - length old) (laid_end (length old) w.frames.bodies (length new) window.laid) in
    let sum : length new + length (rest all) ≡ length old + length all = sym (length-append new (rest all)) ∙ ap length window.bytes ∙ length-append old all in
    record {
      at_end = at_end;
      whole = whole;
      last = last;
      window = window;
      counted = counted;
      bytes = omega (arith, above, size, sum, ap length window.held, counted, length-append feed.held taken);
      comes_on = λ none. (
          let small = window_small feed.window all big at_end w.last (is_whole feed.window all t at_end whole) last none in
          omega (arith, above, size, sum, small));
      steady = steady;
    }
