-- What bytes say, whatever follows them.
use Rattle.std.proofs.Common.{◌≡◌, ℕ, zero, suc, ◌-◌, ◌<◌, ◌≤◌, ◌⊎◌, Bool, true, false, List, [], ◌∷◌, ◌++◌, length, take, drop, None, Result, Ok, Err, nat_lt, if◌then◌else◌, refl, sym, ◌∙◌, ap, arith, inl, inr, length-append, length-drop}
use Rattle.std.proofs.lemmas.Bool.{ltb-false, le-ltb}
use Rattle.std.proofs.lemmas.List.{take-append-le, drop-append-le}
use Rattle.jl_base.specs.Results.{◌>>=◌, Reading, followed, with_front}
use Rattle.jl_base.specs.declared.kind.Kind.{Kind}
use Rattle.jl_base.specs.declared.kind.Kind.TheVariants.{Truncated}
use Rattle.jl_wire.specs.Varint.{varint_within, varint}
use Rattle.jl_wire.proofs.FieldLaws.{varint_size}
use Rattle.jl_rows.specs.Files.{body, body_behind, most_body, frames}
use Rattle.jl_rows.proofs.FrameLaws.{IsFrameSized, frame_size, frames_end, frames_fault, frames_next}
use Rattle.jl_frames.specs.Windows.{rest_after, rest, lasts, is_lasting}

-- an answer stays, or bytes were missing
abbrev pub Stays : {A : Type 0} → Result A Kind → Result A Kind → Type 0
Stays more r = (more ≡ r) ⊎ (r ≡ Err Truncated)

either : {A : Type 0} (t : Bool) (a more r : Result A Kind) → r ≡ Err Truncated → Stays (if t then a else more) (if t then a else r)
either true a more r cut = inl refl
either false a more r cut = inr cut

within_stays : (room : ℕ) (x y : List ℕ) → Stays (varint_within room (x ++ y)) (varint_within room x)
unfolding varint_within
within_stays zero x y = inl refl
within_stays (suc room) [] y = inr refl
within_stays (suc room) (b ∷ x) y = elim (within_stays room x y) [
  | inl same ↦ inl (rw same refl)
  | inr cut ↦ either (nat_lt b 128) (Ok (b, 1)) _ _ (rw cut refl)
]

pub varint_stays : (x y : List ℕ) → Stays (varint (x ++ y)) (varint x)
unfolding varint
varint_stays x y = elim (within_stays 10 x y) [ inl same ↦ inl (rw same refl) | inr cut ↦ inr (rw cut refl) ]

-- a whole body stays
whole_stays : (x y : List ℕ) (len : ℕ × ℕ) → len.1 ≤ length x → len.0 ≤ length x - len.1 → body_behind (x ++ y) len ≡ body_behind x len
whole_stays x y len inside enough =
    let a : nat_lt (length x - len.1) len.0 ≡ false = le-ltb (length x - len.1) len.0 enough in
    let b : nat_lt (length (x ++ y) - len.1) len.0 ≡ false = le-ltb (length (x ++ y) - len.1) len.0 (omega (arith, length-append x y, enough)) in
    let t : take len.0 (drop len.1 (x ++ y)) ≡ take len.0 (drop len.1 x) =
    ap (take len.0) (drop-append-le len.1 x y inside) ∙ take-append-le len.0 (drop len.1 x) y (omega (arith, length-drop len.1 x, enough)) in
    rw (a, b, t) refl

by_tests : (x y : List ℕ) (len : ℕ × ℕ) → len.1 ≤ length x → (long short : Bool) → nat_lt most_body len.0 ≡ long → nat_lt (length x - len.1) len.0 ≡ short → Stays (body_behind (x ++ y) len) (body_behind x len)
by_tests x y len inside true short l s = inl (rw l refl)
by_tests x y len inside false true l s = inr (rw (l, s) refl)
by_tests x y len inside false false l s = inl (whole_stays x y len inside (ltb-false (length x - len.1) len.0 s))

behind_stays : (x y : List ℕ) (r : Result (ℕ × ℕ) Kind) → varint x ≡ r → Stays (r >>= λ len. body_behind (x ++ y) len) (r >>= λ len. body_behind x len)
behind_stays x y (Ok len) e = by_tests x y len (varint_size x len e).1 (nat_lt most_body len.0) (nat_lt (length x - len.1) len.0) refl refl
behind_stays x y (Err k) e = inl refl

pub body_stays : (x y : List ℕ) → Stays (body (x ++ y)) (body x)
body_stays x y = elim (varint_stays x y) [
  | inl same ↦ rw same (behind_stays x y (varint x) refl)
  | inr cut ↦ inr (rw cut refl)
]

pub body_whole : (x y : List ℕ) (f : List ℕ × ℕ) → body x ≡ Ok f → body (x ++ y) ≡ Ok f
body_whole x y f e = elim (body_stays x y) [ inl same ↦ same ∙ e | inr cut ↦ absurd (let never = sym e ∙ cut in (cc)) ]

-- what is left
rest_skipped : (skip : ℕ) (bytes : List ℕ) → rest_after skip bytes ≡ rest_after 0 (drop skip bytes)
unfolding rest_after
rest_skipped zero bytes = refl
rest_skipped (suc skip) [] = refl
rest_skipped (suc skip) (b ∷ bytes) = rest_skipped skip bytes

pub rest_stuck : (x : List ℕ) (k : Kind) → body x ≡ Err k → rest x ≡ x
unfolding rest_after
rest_stuck [] k e = refl
rest_stuck (b ∷ x) k e = rw e refl

rest_by : (x : List ℕ) (f : List ℕ × ℕ) → body x ≡ Ok f → IsFrameSized x f → rest x ≡ rest (drop f.1 x)
unfolding rest_after
rest_by [] f e sized = absurd (omega (arith, sized.above, sized.within))
rest_by (b ∷ x) f e sized =
    let size : f.1 ≡ suc (f.1 - 1) = omega (arith, sized.above) in
    let behind : rest_after 0 (drop f.1 (b ∷ x)) ≡ rest_after 0 (drop (f.1 - 1) x) = ap (λ n. rest_after 0 (drop n (b ∷ x))) size in
    rw (e, rest_skipped (f.1 - 1) x, behind) refl

pub rest_next : (x : List ℕ) (f : List ℕ × ℕ) → body x ≡ Ok f → rest x ≡ rest (drop f.1 x)
rest_next x f e = rest_by x f e (frame_size x f e)

pub rest_end : rest [] ≡ []
unfolding rest_after
rest_end = refl

-- The whole frames in front stay whatever follows, and so does a fault that lasts.
pub record Front (x : List ℕ) : Type 0 where
  pub whole : (y : List ℕ) → frames (x ++ y) ≡ followed (frames x).items None (frames (rest x ++ y))
  pub lasts : (y : List ℕ) → is_lasting (frames x).fault ≡ true → frames (x ++ y) ≡ frames x
  pub within : length (rest x) ≤ length x
  pub ends : frames (rest x) ≡ record { items = []; fault = (frames x).fault }

front_end : Front []
front_end = record {
  whole = λ y. rw (frames_end, rest_end) refl;
  lasts = λ y e. absurd (let none = ap (λ (r : Reading (List ℕ) Kind). is_lasting r.fault) frames_end in (cc));
  within = omega (arith, ap length rest_end);
  ends = rw (rest_end, frames_end) refl;
}

front_stuck : (x : List ℕ) (k : Kind) → 0 < length x → body x ≡ Err k → Front x
front_stuck x k some e =
    let stuck = rest_stuck x k e in
    let none = frames_fault x k some e in
    record {
      whole = λ y. rw (none, stuck) refl;
      lasts = λ y l. elim (body_stays x y) [
        | inl same ↦ frames_fault (x ++ y) k (omega (arith, length-append x y)) (same ∙ e) ∙ sym none
        | inr cut ↦ absurd (
            let is : Err k ≡ Err Truncated = sym e ∙ cut in
            let same : k ≡ Truncated = cc in
            let never : lasts Truncated ≡ true = sym (ap lasts same) ∙ sym (ap (λ (r : Reading (List ℕ) Kind). is_lasting r.fault) none) ∙ l in
            (cc))
      ];
      within = omega (arith, ap length stuck);
      ends = ap frames stuck ∙ none ∙ ap (λ (r : Reading (List ℕ) Kind). record { items = []; fault = r.fault }) (sym none);
    }

front_next : (x : List ℕ) (f : List ℕ × ℕ) → body x ≡ Ok f → Front (drop f.1 x) → Front x
front_next x f e behind =
    let sized = frame_size x f e in
    let first = frames_next x f e in
    let left = rest_next x f e in
    let more = λ (y : List ℕ). frames_next (x ++ y) f (body_whole x y f e) ∙ ap (λ (z : List ℕ). with_front f.0 (frames z)) (drop-append-le f.1 x y sized.within) in
    record {
      whole = λ y. more y ∙ ap (with_front f.0) (behind.whole y) ∙ rw (first, left) refl;
      lasts = λ y l. more y ∙ ap (with_front f.0) (behind.lasts y (sym (ap (λ (r : Reading (List ℕ) Kind). is_lasting r.fault) first) ∙ l)) ∙ sym first;
      within = omega (arith, ap length left, behind.within, length-drop f.1 x);
      ends = ap frames left ∙ behind.ends ∙ ap (λ (r : Reading (List ℕ) Kind). record { items = []; fault = r.fault }) (sym first);
    }

front_body : (x : List ℕ) → 0 < length x → ((y : List ℕ) → length y < length x → Front y) → (r : Result (List ℕ × ℕ) Kind) → body x ≡ r → Front x
front_body x some go (Ok f) e =
    let sized = frame_size x f e in
    front_next x f e (go (drop f.1 x) (omega (arith, sized.above, sized.within, length-drop f.1 x)))
front_body x some go (Err k) e = front_stuck x k some e

front_by : (room : ℕ) (x : List ℕ) → length x ≤ room → Front x
front_by room [] le = front_end
front_by zero (b ∷ x) le = absurd (omega arith)
front_by (suc room) (b ∷ x) le = front_body (b ∷ x) (omega arith) (λ y lt. front_by room y (omega arith)) (body (b ∷ x)) refl

pub front : (x : List ℕ) → Front x
front x = front_by (length x) x (omega arith)
