-- The whole frames in front of some bytes, without what is left after them.
use Rattle.std.proofs.Common.{◌≡◌, ℕ, zero, suc, ◌+◌, ◌-◌, ◌*◌, ◌<◌, ◌≤◌, ◌^◌, Bool, true, false, List, [], ◌∷◌, ◌++◌, length, take, drop, None, Result, Ok, Err, nat_lt, if◌then◌else◌, refl, sym, ◌∙◌, ap, arith, length-append, length-drop}
use Rattle.std.proofs.lemmas.Bool.{le-ltb}
use Rattle.std.proofs.lemmas.List.{take-append-le, drop-append-le}
use Rattle.jl_base.specs.Results.{◌>>=◌, Reading, with_front}
use Rattle.jl_base.specs.declared.kind.Kind.{Kind}
use Rattle.jl_base.specs.declared.kind.Kind.TheVariants.{Truncated, BadVarint, FrameTooLong}
use Rattle.jl_wire.specs.Varint.{varint_within, varint}
use Rattle.jl_wire.proofs.Bound.{bound, let_through}
use Rattle.jl_rows.specs.Files.{body, body_behind, most_body, frames}
use Rattle.jl_rows.proofs.FrameLaws.{frame_size, frames_end, frames_fault, frames_next}
use Rattle.jl_frames.specs.Windows.{rest}
use Rattle.jl_frames.proofs.Fronts.{front, rest_next, rest_stuck}

-- what a byte says, and the bytes after it
abbrev high_of : ℕ → ℕ × ℕ → Result (ℕ × ℕ) Kind
high_of b high = Ok (b - 128 + 128 * high.0, high.1 + 1)

by_byte : (t : Bool) (b : ℕ) (X Y : Result (ℕ × ℕ) Kind) (len : ℕ × ℕ) (n : ℕ) → ((v : ℕ × ℕ) → X ≡ Ok v → v.1 ≤ n → Y ≡ Ok v) → len.1 ≤ suc n → (if t then Ok (b, 1) else (X >>= high_of b)) ≡ Ok len
    → (if t then Ok (b, 1) else (Y >>= high_of b)) ≡ Ok len
by_byte true b X Y len n back le e = e
by_byte false b X Y len n back le e =
    let high = bound X (high_of b) len e in
    let same : ◌≡◌ {A = ℕ × ℕ} (b - 128 + 128 * high.value.0, high.value.1 + 1) len = let h = high.next in cc in
    let size : high.value.1 + 1 ≡ len.1 = ap (λ (p : ℕ × ℕ). p.1) same in
    let short = back high.value high.was (omega (arith, size, le)) in
    ap (λ (R : Result (ℕ × ℕ) Kind). R >>= high_of b) short ∙ high.next

positive_by : (t : Bool) (b : ℕ) (X : Result (ℕ × ℕ) Kind) (len : ℕ × ℕ) → (if t then Ok (b, 1) else (X >>= high_of b)) ≡ Ok len → 0 < len.1
positive_by true b X len e =
    let same : ◌≡◌ {A = ℕ × ℕ} (b, 1) len = cc in
    let size : 1 ≡ len.1 = ap (λ (p : ℕ × ℕ). p.1) same in
    omega (arith, size)
positive_by false b X len e =
    let high = bound X (high_of b) len e in
    let same : ◌≡◌ {A = ℕ × ℕ} (b - 128 + 128 * high.value.0, high.value.1 + 1) len = let h = high.next in cc in
    let size : high.value.1 + 1 ≡ len.1 = ap (λ (p : ℕ × ℕ). p.1) same in
    omega (arith, size)

positive : (room : ℕ) (x : List ℕ) (len : ℕ × ℕ) → varint_within room x ≡ Ok len → 0 < len.1
unfolding varint_within
positive zero x len e = absurd (cc)
positive (suc room) [] len e = absurd (cc)
positive (suc room) (b ∷ x) len e = positive_by (nat_lt b 128) b (varint_within room x) len e

-- a varint that ends within the first bytes is theirs
within_back : (room : ℕ) (y r : List ℕ) (len : ℕ × ℕ) → varint_within room (y ++ r) ≡ Ok len → len.1 ≤ length y → varint_within room y ≡ Ok len
unfolding varint_within
within_back zero y r len e le = absurd (cc)
within_back (suc room) [] r len e le = absurd (omega (arith, le, positive (suc room) r len e))
within_back (suc room) (b ∷ y) r len e le = by_byte (nat_lt b 128) b (varint_within room (y ++ r)) (varint_within room y) len (length y) (λ v was short. within_back room y r v was short) le e

abbrev fitted : ℕ × ℕ → Result (ℕ × ℕ) Kind
fitted v = if nat_lt v.0 (2 ^ 64) then Ok v else Err BadVarint

by_size : (t : Bool) (v len : ℕ × ℕ) → ◌≡◌ {A = Result (ℕ × ℕ) Kind} (if t then Ok v else Err BadVarint) (Ok len) → v ≡ len
by_size true v len e = cc
by_size false v len e = absurd (cc)

varint_back : (y r : List ℕ) (len : ℕ × ℕ) → varint (y ++ r) ≡ Ok len → len.1 ≤ length y → varint y ≡ Ok len
unfolding varint
varint_back y r len e le =
    let first = bound (varint_within 10 (y ++ r)) fitted len e in
    let same = by_size (nat_lt first.value.0 (2 ^ 64)) first.value len first.next in
    let size : first.value.1 ≡ len.1 = ap (λ (p : ℕ × ℕ). p.1) same in
    let short = within_back 10 y r first.value first.was (omega (arith, le, size)) in
    ap (λ (R : Result (ℕ × ℕ) Kind). R >>= fitted) short ∙ first.next

whole_stays : (x y : List ℕ) (len : ℕ × ℕ) → len.1 ≤ length x → len.0 ≤ length x - len.1 → body_behind (x ++ y) len ≡ body_behind x len
whole_stays x y len inside enough =
    let a : nat_lt (length x - len.1) len.0 ≡ false = le-ltb (length x - len.1) len.0 enough in
    let b : nat_lt (length (x ++ y) - len.1) len.0 ≡ false = le-ltb (length (x ++ y) - len.1) len.0 (omega (arith, length-append x y, enough)) in
    let t : take len.0 (drop len.1 (x ++ y)) ≡ take len.0 (drop len.1 x) =
    ap (take len.0) (drop-append-le len.1 x y inside) ∙ take-append-le len.0 (drop len.1 x) y (omega (arith, length-drop len.1 x, enough)) in
    rw (a, b, t) refl

-- a body that ends within the first bytes is theirs
body_back : (y r : List ℕ) (f : List ℕ × ℕ) → body (y ++ r) ≡ Ok f → f.1 ≤ length y → body y ≡ Ok f
body_back y r f e le =
    let len = bound (varint (y ++ r)) (body_behind (y ++ r)) f e in
    let text = take len.value.0 (drop len.value.1 (y ++ r)) in
    let short = let_through (nat_lt most_body len.value.0) FrameTooLong (if nat_lt (length (y ++ r) - len.value.1) len.value.0 then Err Truncated else Ok (text, len.value.1 + len.value.0)) f len.next in
    let through = let_through (nat_lt (length (y ++ r) - len.value.1) len.value.0) Truncated (Ok (text, len.value.1 + len.value.0)) f short.1 in
    let same : ◌≡◌ {A = List ℕ × ℕ} (text, len.value.1 + len.value.0) f = let h = through.1 in cc in
    let size : len.value.1 + len.value.0 ≡ f.1 = ap (λ (p : List ℕ × ℕ). p.1) same in
    let first = varint_back y r len.value len.was (omega (arith, size, le)) in
    ap (λ (R : Result (ℕ × ℕ) Kind). R >>= body_behind y) first ∙ sym (whole_stays y r len.value (omega (arith, size, le)) (omega (arith, size, le))) ∙ len.next

none_of : (y : List ℕ) → length y ≡ 0 → y ≡ []
none_of [] e = refl
none_of (b ∷ y) e = absurd (omega (arith, e))

-- the frames of these, and no fault
abbrev IsCutOf : List ℕ → List ℕ → Type 0
IsCutOf y x = frames y ≡ record { items = (frames x).items; fault = None }

abbrev sound : Reading (List ℕ) Kind → Reading (List ℕ) Kind
sound R = record { items = R.items; fault = None }

cut_end : (y : List ℕ) → y ++ rest [] ≡ [] → IsCutOf y []
cut_end y e =
    let none = none_of y (omega (arith, ap length e, length-append y (rest []))) in
    ap frames none ∙ frames_end ∙ sym (ap sound frames_end)

cut_stuck : (x y : List ℕ) (k : Kind) → 0 < length x → body x ≡ Err k → y ++ rest x ≡ x → IsCutOf y x
cut_stuck x y k some fault e =
    let stuck = rest_stuck x k fault in
    let none = none_of y (omega (arith, ap length e, ap length stuck, length-append y (rest x))) in
    ap frames none ∙ frames_end ∙ sym (ap sound (frames_fault x k some fault))

cut_next : (x y : List ℕ) (f : List ℕ × ℕ) → body x ≡ Ok f → y ++ rest x ≡ x → (drop f.1 y ++ rest (drop f.1 x) ≡ drop f.1 x → IsCutOf (drop f.1 y) (drop f.1 x)) → IsCutOf y x
cut_next x y f read e go =
    let sized = frame_size x f read in
    let left = rest_next x f read in
    let within = (front (drop f.1 x)).within in
    let le : f.1 ≤ length y = omega (arith, sized.within, within, ap length left, ap length e, length-append y (rest x), length-drop f.1 x) in
    let here : body y ≡ Ok f = body_back y (rest x) f (ap body e ∙ read) le in
    let parts : drop f.1 y ++ rest (drop f.1 x) ≡ drop f.1 x =
    ap (λ (z : List ℕ). drop f.1 y ++ z) (sym left) ∙ sym (drop-append-le f.1 y (rest x) le) ∙ ap (drop f.1) e in
    frames_next y f here ∙ ap (with_front f.0) (go parts) ∙ sym (ap sound (frames_next x f read))

cut_body : (x y : List ℕ) → 0 < length x → ((z : List ℕ) → length z < length x → (v : List ℕ) → v ++ rest z ≡ z → IsCutOf v z) → (r : Result (List ℕ × ℕ) Kind) → body x ≡ r → y ++ rest x ≡ x → IsCutOf y x
cut_body x y some go (Ok f) read e =
    let sized = frame_size x f read in
    cut_next x y f read e (λ parts. go (drop f.1 x) (omega (arith, sized.above, sized.within, length-drop f.1 x)) (drop f.1 y) parts)
cut_body x y some go (Err k) read e = cut_stuck x y k some read e

cut_by : (room : ℕ) (x : List ℕ) → length x ≤ room → (y : List ℕ) → y ++ rest x ≡ x → IsCutOf y x
cut_by room [] le y e = cut_end y e
cut_by zero (b ∷ x) le y e = absurd (omega (arith, le))
cut_by (suc room) (b ∷ x) le y e = cut_body (b ∷ x) y (omega arith) (λ z lt v p. cut_by room z (omega (arith, lt, le)) v p) (body (b ∷ x)) refl e

pub cut : (x y : List ℕ) → y ++ rest x ≡ x → frames y ≡ record { items = (frames x).items; fault = None }
cut x y e = cut_by (length x) x (omega arith) y e
