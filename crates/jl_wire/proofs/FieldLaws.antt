-- Laws of fields: how long they are, and how they follow one another.
use Rattle.std.proofs.Common.{◌≡◌, ℕ, zero, suc, ◌+◌, ◌-◌, ◌*◌, ◌<◌, ◌≤◌, ◌^◌, ◌/◌, ◌%◌, Bool, true, false, List, [], ◌∷◌, length, take, drop, slice_range, Some, None, Result, Ok, Err, nat_lt, nat_eq, if◌then◌else◌, refl, ◌∙◌, ap, arith, length-drop}
use Rattle.std.specs.Int.{Width, w32, w64, byte_len, from_le_bytes}
use Rattle.std.proofs.lemmas.Bool.{ltb-false}
use Rattle.std.proofs.lemmas.List.{length-take-le}
use Rattle.jl_base.specs.Results.{◌>>=◌, with_front}
use Rattle.jl_base.specs.declared.kind.Kind.{Kind}
use Rattle.jl_base.specs.declared.kind.Kind.TheVariants.{Truncated, BadVarint, BadTag}
use Rattle.jl_wire.proofs.Bound.{bound, let_through}
use Rattle.jl_wire.proofs.Ranges.{length-range, drop-range}
use Rattle.jl_wire.specs.Seen.{field_seen}
use Rattle.jl_wire.specs.declared.field.Field as code
use Rattle.jl_wire.specs.Varint.{varint_within, varint}
use Rattle.jl_wire.specs.Fields.{Content, Number, Bytes, Eight, Four, Field, is_bad_tag, fixed, counted_bytes, content_of, field, fields_after, fields}

-- a varint takes at least one byte, and no more than there are
within_size : (room : ℕ) (bytes : List ℕ) (found : ℕ × ℕ) → varint_within room bytes ≡ Ok found → (0 < found.1) × (found.1 ≤ length bytes)
unfolding varint_within
within_size zero bytes found e = cc
within_size (suc room) [] found e = cc
within_size (suc room) (b ∷ bytes) found e = by_byte (nat_lt b 128) (λ r was. within_size room bytes r was) e
  where
    by_byte : (t : Bool) → ((r : ℕ × ℕ) → varint_within room bytes ≡ Ok r → (0 < r.1) × (r.1 ≤ length bytes)) → (if t then Ok (b, 1) else (varint_within room bytes >>= λ high. Ok (b - 128 + 128 * high.0, high.1 + 1))) ≡ Ok found → (0 < found.1) × (found.1 ≤ suc (length bytes))
    by_byte true rest h =
        let same : ◌≡◌ {A = ℕ × ℕ} (b, 1) found = cc in
        let size : 1 ≡ found.1 = ap (λ (p : ℕ × ℕ). p.1) same in
        (omega arith, omega arith)
    by_byte false rest h =
        let high = bound (varint_within room bytes) (λ (high : ℕ × ℕ). Ok (b - 128 + 128 * high.0, high.1 + 1)) found h in
        let sizes = rest high.value high.was in
        let same : ◌≡◌ {A = ℕ × ℕ} (b - 128 + 128 * high.value.0, high.value.1 + 1) found = let e = high.next in cc in
        let size : high.value.1 + 1 ≡ found.1 = ap (λ (p : ℕ × ℕ). p.1) same in
        (omega arith, omega (arith, sizes))

pub varint_size : (bytes : List ℕ) (found : ℕ × ℕ) → varint bytes ≡ Ok found → (0 < found.1) × (found.1 ≤ length bytes)
unfolding varint
varint_size bytes found e =
    let first = bound (varint_within 10 bytes) (λ (r : ℕ × ℕ). if nat_lt r.0 (2 ^ 64) then Ok r else Err BadVarint) found e in
    let sizes = within_size 10 bytes first.value first.was in
    by_value (nat_lt first.value.0 (2 ^ 64)) first.value sizes first.next
  where
    by_value : (t : Bool) (r : ℕ × ℕ) → (0 < r.1) × (r.1 ≤ length bytes) → (if t then Ok r else Err BadVarint) ≡ Ok found → (0 < found.1) × (found.1 ≤ length bytes)
    by_value true r sizes h =
        let same : r ≡ found = cc in
        let size : r.1 ≡ found.1 = ap (λ (p : ℕ × ℕ). p.1) same in
        omega (arith, sizes)
    by_value false r sizes h = cc

-- how long a content is: no longer than the bytes, and a text shorter than itself with its length
pub record IsSized (bytes : List ℕ) (found : Content × ℕ) : Type 0 where
  pub within : found.1 ≤ length bytes
  pub shorter : (text : List ℕ) → found.0 ≡ Bytes text → length text < found.1

-- a content of a known length
fixed_size : (w : Width) (make : ℕ → Content) (bytes : List ℕ) (found : Content × ℕ) → fixed w make bytes ≡ Ok found → (found.1 ≤ length bytes) × ((n : ℕ) × (make n ≡ found.0))
fixed_size w make bytes found e =
    let number = from_le_bytes w (take (byte_len w) bytes) in
    let through = let_through (nat_lt (length bytes) (byte_len w)) Truncated (Ok (make number, byte_len w)) found e in
    let enough = ltb-false (length bytes) (byte_len w) through.0 in
    let same : ◌≡◌ {A = Content × ℕ} (make number, byte_len w) found = let h = through.1 in cc in
    let size : byte_len w ≡ found.1 = ap (λ (p : Content × ℕ). p.1) same in
    (omega arith, (number, ap (λ (p : Content × ℕ). p.0) same))

-- counted bytes are no longer than the bytes behind their length
counted_size : (bytes : List ℕ) (found : Content × ℕ) → counted_bytes bytes ≡ Ok found → IsSized bytes found
counted_size bytes found e =
    let len = bound (varint bytes) (λ (len : ℕ × ℕ). if nat_lt (length bytes - len.1) len.0 then Err Truncated else Ok (Bytes (take len.0 (drop len.1 bytes)), len.1 + len.0)) found e in
    let sizes = varint_size bytes len.value len.was in
    let through = let_through (nat_lt (length bytes - len.value.1) len.value.0) Truncated (Ok (Bytes (take len.value.0 (drop len.value.1 bytes)), len.value.1 + len.value.0)) found len.next in
    let enough = ltb-false (length bytes - len.value.1) len.value.0 through.0 in
    let same : ◌≡◌ {A = Content × ℕ} (Bytes (take len.value.0 (drop len.value.1 bytes)), len.value.1 + len.value.0) found = let h = through.1 in cc in
    let size : len.value.1 + len.value.0 ≡ found.1 = ap (λ (p : Content × ℕ). p.1) same in
    let content : Bytes (take len.value.0 (drop len.value.1 bytes)) ≡ found.0 = ap (λ (p : Content × ℕ). p.0) same in
    record {
      within = omega (arith, sizes);
      shorter = λ text is.
          let text_is : take len.value.0 (drop len.value.1 bytes) ≡ text = cc in
          omega (arith, sizes, ap length text_is, length-take-le len.value.0 (drop len.value.1 bytes) (omega (arith, sizes, length-drop len.value.1 bytes)));
    }

number_size : (bytes : List ℕ) (found : Content × ℕ) → (varint bytes >>= λ n. Ok (Number n.0, n.1)) ≡ Ok found → IsSized bytes found
number_size bytes found e =
    let n = bound (varint bytes) (λ (n : ℕ × ℕ). Ok (Number n.0, n.1)) found e in
    let sizes = varint_size bytes n.value n.was in
    let same : ◌≡◌ {A = Content × ℕ} (Number n.value.0, n.value.1) found = let h = n.next in cc in
    let content : Number n.value.0 ≡ found.0 = ap (λ (p : Content × ℕ). p.0) same in
    let size : n.value.1 ≡ found.1 = ap (λ (p : Content × ℕ). p.1) same in
    record { within = omega (arith, sizes); shorter = λ text is. absurd (cc) }

eight_size : (bytes : List ℕ) (found : Content × ℕ) → fixed w64 Eight bytes ≡ Ok found → IsSized bytes found
eight_size bytes found e =
    let p = fixed_size w64 Eight bytes found e in
    let content = p.1.1 in
    record { within = p.0; shorter = λ text is. absurd (cc) }

four_size : (bytes : List ℕ) (found : Content × ℕ) → fixed w32 Four bytes ≡ Ok found → IsSized bytes found
four_size bytes found e =
    let p = fixed_size w32 Four bytes found e in
    let content = p.1.1 in
    record { within = p.0; shorter = λ text is. absurd (cc) }

content_size : (wire : ℕ) (bytes : List ℕ) (found : Content × ℕ) → content_of wire bytes ≡ Ok found → IsSized bytes found
content_size wire bytes found e = by_wire (nat_eq wire 0) (nat_eq wire 1) (nat_eq wire 2) e
  where
    by_wire : (zeroth first second : Bool) → (if zeroth then (varint bytes >>= λ n. Ok (Number n.0, n.1)) else if first then fixed w64 Eight bytes else if second then counted_bytes bytes else fixed w32 Four bytes) ≡ Ok found → IsSized bytes found
    by_wire true first second h = number_size bytes found h
    by_wire false true second h = eight_size bytes found h
    by_wire false false true h = counted_size bytes found h
    by_wire false false false h = four_size bytes found h

-- How long a field is: it takes at least its tag, no more than the bytes, and its text is shorter by its tag and its
-- length.
pub record IsFieldSized (bytes : List ℕ) (f : Field) : Type 0 where
  pub above : 0 < f.size
  pub within : f.size ≤ length bytes
  pub shorter : (text : List ℕ) → f.content ≡ Bytes text → length text + 1 < f.size

together_size : (bytes : List ℕ) (number size : ℕ) (found : Content × ℕ) (f : Field) → 0 < size → size ≤ length bytes → IsSized (drop size bytes) found → ◌≡◌ {A = Result Field Kind} (Ok (record { number = number; content = found.0; size = size + found.1 })) (Ok f) → IsFieldSized bytes f
together_size bytes number size found f above within sized e =
    let made : Field = record { number = number; content = found.0; size = size + found.1 } in
    let same : made ≡ f = cc in
    let total : size + found.1 ≡ f.size = ap (λ (g : Field). g.size) same in
    let content : found.0 ≡ f.content = ap (λ (g : Field). g.content) same in
    let left = length-drop size bytes in
    record {
      above = omega arith;
      within = omega (arith, left, sized.within);
      shorter = λ text is. omega (arith, sized.shorter text (content ∙ is));
    }

field_size_by : (bytes : List ℕ) (tag : ℕ × ℕ) (f : Field) → varint bytes ≡ Ok tag → ((if is_bad_tag tag.0 then Err BadTag else content_of (tag.0 % 8) (drop tag.1 bytes)) >>= λ (content : Content × ℕ). Ok (record { number = tag.0 / 8; content = content.0; size = tag.1 + content.1 })) ≡ Ok f → IsFieldSized bytes f
field_size_by bytes tag f was e =
    let sizes = varint_size bytes tag was in
    let content = bound (if is_bad_tag tag.0 then Err BadTag else content_of (tag.0 % 8) (drop tag.1 bytes)) (λ (content : Content × ℕ). Ok (record { number = tag.0 / 8; content = content.0; size = tag.1 + content.1 })) f e in
    let through = let_through (is_bad_tag tag.0) BadTag (content_of (tag.0 % 8) (drop tag.1 bytes)) content.value content.was in
    together_size bytes (tag.0 / 8) tag.1 content.value f sizes.0 sizes.1 (content_size (tag.0 % 8) (drop tag.1 bytes) content.value through.1) content.next

pub field_size : (bytes : List ℕ) (f : Field) → field bytes ≡ Ok f → IsFieldSized bytes f
unfolding field
field_size bytes f e =
    let tag = bound (varint bytes) (λ (tag : ℕ × ℕ). (if is_bad_tag tag.0 then Err BadTag else content_of (tag.0 % 8) (drop tag.1 bytes)) >>= λ (content : Content × ℕ). Ok (record { number = tag.0 / 8; content = content.0; size = tag.1 + content.1 })) f e in
    field_size_by bytes tag.value f tag.was tag.next

-- a text in a field is shorter than the bytes that the field stands in
pub content_is_shorter : (bytes : List ℕ) (f : Field) (text : List ℕ) → field bytes ≡ Ok f → f.content ≡ Bytes text → length text + 1 < length bytes
content_is_shorter bytes f text e is = let sized = field_size bytes f e in omega (arith, sized.shorter text is, sized.within)

-- skipping bytes one by one is leaving them out
skipped : (skip : ℕ) (bytes : List ℕ) → fields_after skip bytes ≡ fields_after 0 (drop skip bytes)
unfolding fields_after
skipped zero bytes = refl
skipped (suc skip) [] = refl
skipped (suc skip) (b ∷ bytes) = skipped skip bytes

-- no bytes have no fields; a fault in front ends them; and behind the field in front stand the others
pub fields_end : fields [] ≡ record { items = []; fault = None }
unfolding fields_after
fields_end = refl

pub fields_fault : (bytes : List ℕ) (k : Kind) → 0 < length bytes → field bytes ≡ Err k → fields bytes ≡ record { items = []; fault = Some k }
unfolding fields_after
fields_fault [] k some e = absurd (omega arith)
fields_fault (b ∷ bytes) k some e = rw e refl

in_front : (bytes : List ℕ) (f : Field) → field bytes ≡ Ok f → IsFieldSized bytes f → fields bytes ≡ with_front f (fields (drop f.size bytes))
unfolding fields_after
in_front [] f e sized = absurd (omega (arith, sized.above, sized.within))
in_front (b ∷ bytes) f e sized =
    let size : f.size ≡ suc (f.size - 1) = omega (arith, sized.above) in
    let behind : fields_after 0 (drop f.size (b ∷ bytes)) ≡ fields_after 0 (drop (f.size - 1) bytes) = ap (λ n. fields_after 0 (drop n (b ∷ bytes))) size in
    rw (e, skipped (f.size - 1) bytes, behind) refl

pub fields_next : (bytes : List ℕ) (f : Field) → field bytes ≡ Ok f → fields bytes ≡ with_front f (fields (drop f.size bytes))
fields_next bytes f e = in_front bytes f e (field_size bytes f e)

-- the same in a range of bytes, as next_field reads them
pub fields_at_end : (bytes : List ℕ) (at end : ℕ) → at ≡ end → fields (slice_range bytes at end) ≡ record { items = []; fault = None }
fields_at_end bytes at end e =
    let none : end - at ≡ 0 = omega arith in
    let empty : slice_range bytes at end ≡ [] = rw none refl in
    rw empty fields_end

pub fields_at_fault : (bytes : List ℕ) (at end : ℕ) (k : Kind) → end ≤ length bytes → (at < end) × (field (slice_range bytes at end) ≡ Err k) → fields (slice_range bytes at end) ≡ record { items = []; fault = Some k }
fields_at_fault bytes at end k inside said =
    let some : 0 < length (slice_range bytes at end) = omega (arith, said.0, length-range bytes at end (omega (arith, said.0)) inside) in
    fields_fault (slice_range bytes at end) k some said.1

pub fields_at_next : (bytes : List ℕ) (at end : ℕ) (f : code.Field) → at ≤ f.next → f.next ≤ end → field (slice_range bytes at end) ≡ Ok (field_seen bytes at f) → fields (slice_range bytes at end) ≡ with_front (field_seen bytes at f) (fields (slice_range bytes f.next end))
fields_at_next bytes at end f after before said =
    rw (← drop-range bytes at f.next end after before) (fields_next (slice_range bytes at end) (field_seen bytes at f) said)
