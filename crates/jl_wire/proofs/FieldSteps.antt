-- A field read part by part, in a range of bytes.
use Rattle.std.proofs.Common.{◌≡◌, ℕ, ◌+◌, ◌-◌, ◌≤◌, ◌/◌, ◌%◌, true, false, List, length, take, drop, slice_range, Ok, Err, nat_lt, refl, ◌∙◌, ap, arith}
use Rattle.std.proofs.lemmas.Bool.{le-ltb}
use Rattle.jl_base.specs.declared.kind.Kind.{Kind}
use Rattle.jl_base.specs.declared.kind.Kind.TheVariants.{BadTag}
use Rattle.jl_wire.proofs.Ranges.{length-range, drop-range, take-range}
use Rattle.jl_wire.specs.Varint.{varint}
use Rattle.jl_wire.specs.Fields.{Content, Bytes, is_bad_tag, counted_bytes, content_of, field}

-- as many bytes as the length says
pub counted : (bytes : List ℕ) (at start end len : ℕ) → at ≤ start → start ≤ end → end ≤ length bytes → len ≤ end - start → varint (slice_range bytes at end) ≡ Ok (len, start - at) → counted_bytes (slice_range bytes at end) ≡ Ok (Bytes (slice_range bytes start (start + len)), start + len - at)
counted bytes at start end len le within inside fits said =
    let whole : length (slice_range bytes at end) ≡ end - at = length-range bytes at end (omega arith) inside in
    let enough : nat_lt (length (slice_range bytes at end) - (start - at)) len ≡ false = le-ltb (length (slice_range bytes at end) - (start - at)) len (omega arith) in
    let text : take len (drop (start - at) (slice_range bytes at end)) ≡ slice_range bytes start (start + len) =
    ap (take len) (drop-range bytes at start end le within) ∙ take-range bytes start end len (omega arith) in
    let size : (start - at) + len ≡ start + len - at = omega arith in
    rw (said, enough, text, size) refl

-- no tag, a bad tag, no content, and a whole field
pub no_tag : (bytes : List ℕ) (k : Kind) → varint bytes ≡ Err k → field bytes ≡ Err k
unfolding field
no_tag bytes k said = rw said refl

pub bad_tag : (bytes : List ℕ) (tag size : ℕ) → varint bytes ≡ Ok (tag, size) → is_bad_tag tag ≡ true → field bytes ≡ Err BadTag
unfolding field
bad_tag bytes tag size said bad = rw (said, bad) refl

pub no_content : (bytes : List ℕ) (at start end tag : ℕ) (k : Kind) → at ≤ start → start ≤ end → varint (slice_range bytes at end) ≡ Ok (tag, start - at) → is_bad_tag tag ≡ false → content_of (tag % 8) (slice_range bytes start end) ≡ Err k → field (slice_range bytes at end) ≡ Err k
unfolding field
no_content bytes at start end tag k le within said good refused = rw (said, good, drop-range bytes at start end le within, refused) refl

pub whole_field : (bytes : List ℕ) (at start end next tag : ℕ) (content : Content) → at ≤ start → start ≤ next → next ≤ end → varint (slice_range bytes at end) ≡ Ok (tag, start - at) → is_bad_tag tag ≡ false → content_of (tag % 8) (slice_range bytes start end) ≡ Ok (content, next - start) → field (slice_range bytes at end) ≡ Ok (record { number = tag / 8; content = content; size = next - at })
unfolding field
whole_field bytes at start end next tag content le between within said good read =
    let size : (start - at) + (next - start) ≡ next - at = omega arith in
    let inside : start ≤ end = omega arith in
    rw (said, good, drop-range bytes at start end le inside, read, size) refl
