-- The windows of a file are the file.
use Rattle.std.proofs.Common.{◌≡◌, ℕ, zero, suc, ◌+◌, ◌-◌, ◌*◌, ◌^◌, ◌<◌, ◌≤◌, ◌⊎◌, ◌||◌, Bool, true, false, List, [], ◌∷◌, ◌++◌, length, take, drop, max, Option, Some, None, Result, Ok, Err, nat_lt, if◌then◌else◌, cond, refl, sym, ◌∙◌, ap, arith, inl, inr, append-nil, length-append, length-drop, take-append-drop}
use Rattle.std.proofs.lemmas.Bool.{ltb-false, ltb-true}
use Rattle.std.proofs.lemmas.List.{take_all, length-take-le}
use Rattle.jl_base.specs.Results.{◌>>=◌, Reading, followed, joined}
use Rattle.jl_base.specs.declared.kind.Kind.{Kind}
use Rattle.jl_base.specs.declared.kind.Kind.TheVariants.{Truncated, BadVarint, FrameTooLong}
use Rattle.jl_wire.specs.Varint.{varint_within, varint}
use Rattle.jl_rows.specs.Files.{body, most_body, frames}
use Rattle.jl_rows.proofs.FrameLaws.{frame_size, frames_fault}
use Rattle.jl_frames.specs.Windows.{rest, size_by, wanted, window, is_short, lasts, is_lasting, is_last, framed, after_window, windows_within, all_joined, WindowsJoin}
use Rattle.jl_frames.proofs.Fronts.{front, rest_next, varint_stays}

-- a number that begins with a byte
abbrev begun : Bool → ℕ → Result (ℕ × ℕ) Kind → Result (ℕ × ℕ) Kind
begun t b r = cond {A = Result (ℕ × ℕ) Kind} t (Ok (b, 1)) (r >>= λ high. Ok (b - 128 + 128 * high.0, high.1 + 1))

-- a number that isn't there is cut off, or no number at all
by_byte : (b : ℕ) (x : List ℕ) (room : ℕ) (t : Bool) (r : Result (ℕ × ℕ) Kind) (k : Kind) → ((j : Kind) → r ≡ Err j → (length x < room) ⊎ (j ≡ BadVarint))
    → begun t b r ≡ Err k → (length (b ∷ x) < suc room) ⊎ (k ≡ BadVarint)
by_byte b x room true r k said e = absurd (cc)
by_byte b x room false (Ok high) k said e = absurd (cc)
by_byte b x room false (Err j) k said e =
    let same : j ≡ k = cc in
    elim (said j refl) [ inl lt ↦ inl (omega arith) | inr bad ↦ inr (sym same ∙ bad) ]

within_refused : (room : ℕ) (x : List ℕ) (k : Kind) → varint_within room x ≡ Err k → (length x < room) ⊎ (k ≡ BadVarint)
unfolding varint_within
within_refused zero x k e = inr (let same : BadVarint ≡ k = cc in sym same)
within_refused (suc room) [] k e = inl (omega arith)
within_refused (suc room) (b ∷ x) k e = by_byte b x room (nat_lt b 128) (varint_within room x) k (λ j f. within_refused room x j f) e

by_value : (t : Bool) (found : ℕ × ℕ) (k : Kind) → (if t then Ok found else Err BadVarint) ≡ Err k → k ≡ BadVarint
by_value true found k e = absurd (cc)
by_value false found k e = let same : BadVarint ≡ k = cc in sym same

by_number : (x : List ℕ) (k : Kind) (r : Result (ℕ × ℕ) Kind) → ((j : Kind) → r ≡ Err j → (length x < 10) ⊎ (j ≡ BadVarint)) → 10 ≤ length x
    → (r >>= λ found. if nat_lt found.0 (2 ^ 64) then Ok found else Err BadVarint) ≡ Err k → k ≡ BadVarint
by_number x k (Ok found) said long e = by_value (nat_lt found.0 (2 ^ 64)) found k e
by_number x k (Err j) said long e =
    let same : j ≡ k = cc in
    elim (said j refl) [ inl lt ↦ absurd (omega arith) | inr bad ↦ sym same ∙ bad ]

pub varint_refused : (x : List ℕ) (k : Kind) → varint x ≡ Err k → 10 ≤ length x → k ≡ BadVarint
unfolding varint
varint_refused x k e long = by_number x k (varint_within 10 x) (λ j f. within_refused 10 x j f) long e

-- a whole body in front, or what no further bytes make one
abbrev pub Solid : List ℕ → Type 0
Solid x = ((f : List ℕ × ℕ) × (body x ≡ Ok f)) ⊎ ((k : Kind) × (body x ≡ Err k) × (lasts k ≡ true))

solid_tests : (x : List ℕ) (len : ℕ × ℕ) (size : ℕ) → varint x ≡ Ok len → max size (size_by (Ok len)) ≤ length x → (long short : Bool) → nat_lt most_body len.0 ≡ long → nat_lt (length x - len.1) len.0 ≡ short → Solid x
solid_tests x len size e enough true short l s = inr (FrameTooLong, rw (e, l) refl, refl)
solid_tests x len size e enough false false l s = inl ((take len.0 (drop len.1 x), len.1 + len.0), rw (e, l, s) refl)
solid_tests x len size e enough false true l s =
    let whole : size_by (Ok len) ≡ len.1 + len.0 = rw l refl in
    absurd (omega (arith, ltb-true (length x - len.1) len.0 s, enough, whole))

solid_by : (x : List ℕ) (size : ℕ) (r : Result (ℕ × ℕ) Kind) → varint x ≡ r → 16 ≤ size → max size (size_by r) ≤ length x → Solid x
solid_by x size (Ok len) e big enough = solid_tests x len size e enough (nat_lt most_body len.0) (nat_lt (length x - len.1) len.0) refl refl
solid_by x size (Err k) e big enough = inr (k, rw e refl, ap lasts (varint_refused x k e (omega (arith, enough, big))))

pub solid : (x : List ℕ) (size : ℕ) → 16 ≤ size → wanted size x ≤ length x → Solid x
solid x size big enough = solid_by x size (varint x) refl big enough

-- what stands after ten bytes doesn't change what they want
pub wanted_stays : (x y : List ℕ) (size : ℕ) → 10 ≤ length x → wanted size (x ++ y) ≡ wanted size x
wanted_stays x y size long = elim (varint_stays x y) [
  | inl same ↦ ap (λ (r : Result (ℕ × ℕ) Kind). max size (size_by r)) same
  | inr cut ↦ absurd (let never = varint_refused x Truncated cut long in (cc))
]

-- a window that isn't the last one takes a byte at least
pub rest_shorter : (x : List ℕ) (size : ℕ) → 16 ≤ size → wanted size x ≤ length x → is_lasting (frames x).fault ≡ false → length (rest x) < length x
rest_shorter x size big enough none_lasts = elim (solid x size big enough) [
  | inl whole ↦ (
      let sized = frame_size x whole.0 whole.1 in
      omega (arith, ap length (rest_next x whole.0 whole.1), (front (drop whole.0.1 x)).within, length-drop whole.0.1 x, sized.above, sized.within))
  | inr never ↦ absurd (
      let none = frames_fault x never.0 (omega (arith, enough, big)) never.1 in
      let l = sym none_lasts ∙ ap (λ (r : Reading (List ℕ) Kind). is_lasting r.fault) none ∙ never.2 in
      (cc))
]

or_false : (a b : Bool) → (a || b) ≡ false → (a ≡ false) × (b ≡ false)
or_false true b e = absurd (cc)
or_false false b e = (refl, e)

or_true : (a b : Bool) → (a || b) ≡ true → (a ≡ true) ⊎ (b ≡ true)
or_true true b e = inl refl
or_true false b e = inr e

joined_none : (R : Reading (List ℕ) Kind) → joined R (record { items = []; fault = None }) ≡ R
joined_none R = by_fault R.items R.fault
  where
    by_fault : (xs : List (List ℕ)) (fault : Option Kind) → joined (record { items = xs; fault = fault }) (record { items = []; fault = None }) ≡ record { items = xs; fault = fault }
    by_fault xs None = rw (append-nil xs) refl
    by_fault xs (Some k) = refl

module _ (size : ℕ) (big : 16 ≤ size) (bytes : List ℕ) where
  abbrev x : List ℕ
  x = window size bytes

  abbrev y : List ℕ
  y = drop (wanted size bytes) bytes

  both : x ++ y ≡ bytes
  both = take-append-drop (wanted size bytes) bytes

  pub window_goes_on : frames bytes ≡ followed (frames x).items None (frames (after_window size bytes))
  window_goes_on = sym (ap frames both) ∙ (front x).whole y

  short_is_all : is_short size bytes ≡ true → x ≡ bytes
  short_is_all e = take_all (wanted size bytes) bytes (omega (arith, ltb-true (length bytes) (wanted size bytes) e))

  pub window_ends : is_last size bytes ≡ true → frames bytes ≡ frames x
  window_ends e = elim (or_true (is_short size bytes) (is_lasting (frames x).fault) e) [
    | inl short ↦ ap frames (sym (short_is_all short))
    | inr e' ↦ sym (ap frames both) ∙ (front x).lasts y e'
  ]

  pub after_shorter : is_last size bytes ≡ false → length (after_window size bytes) < length bytes
  after_shorter e =
      let parts = or_false (is_short size bytes) (is_lasting (frames x).fault) e in
      let enough = ltb-false (length bytes) (wanted size bytes) parts.0 in
      let long : length x ≡ wanted size bytes = length-take-le (wanted size bytes) bytes enough in
      let same : wanted size bytes ≡ wanted size x = ap (wanted size) (sym both) ∙ wanted_stays x y size (omega (arith, long, big)) in
      let less = rest_shorter x size big (omega (arith, long, same)) parts.1 in
      omega (arith, less, ap length both, length-append x y, length-append (rest x) y)

joins_within : (size : ℕ) → 16 ≤ size → (room : ℕ) (bytes : List ℕ) → length bytes < room → all_joined (windows_within room size bytes) ≡ frames bytes
unfolding windows_within
joins_within size big zero bytes lt = absurd (omega arith)
joins_within size big (suc room) bytes lt = by_end (is_last size bytes) refl
    (λ e. joins_within size big room (after_window size bytes) (omega (arith, after_shorter size big bytes e, lt)))
  where
    by_end : (t : Bool) → is_last size bytes ≡ t → (is_last size bytes ≡ false → all_joined (windows_within room size (after_window size bytes)) ≡ frames (after_window size bytes))
        → all_joined (framed size bytes ∷ (if is_last size bytes then [] else windows_within room size (after_window size bytes))) ≡ frames bytes
    by_end true e go = rw e (joined_none (frames (window size bytes)) ∙ sym (window_ends size big bytes e))
    by_end false e go = rw e (ap (followed (frames (window size bytes)).items None) (go e) ∙ sym (window_goes_on size big bytes))

pub windows_join : WindowsJoin
windows_join size file big = joins_within size big (length file + 1) file (omega arith)
