-- Fields of usual shape: a tag of one byte, and a short length or number.
use Rattle.std.proofs.Common.{◌≡◌, ℕ, ◌+◌, ◌-◌, ◌*◌, ◌/◌, ◌%◌, ◌^◌, ◌<◌, ◌≤◌, ◌⊎◌, false, List, length, get_or, slice_range, slice_set, Some, is_some, Result, Ok, refl, sym, ap, ◌∙◌, inl, inr, arith}
use Rattle.std.proofs.lemmas.Bool.{le-ltb, ne_eqb}
use Rattle.jl_base.specs.Results.{◌>>=◌, with_front}
use Rattle.jl_base.specs.Spans.{text_of}
use Rattle.jl_base.specs.declared.kind.Kind.{Kind}
use Rattle.jl_base.specs.declared.place.Span.{Span}
use Rattle.jl_wire.specs.Fields.{Content, is_bad_tag, content_of, field, fields}
use Rattle.jl_wire.proofs.Ranges.{drop-range}
use Rattle.jl_wire.proofs.FieldLaws.{fields_next}
use Rattle.jl_wire.proofs.FieldSteps.{counted, whole_field}
use Rattle.jl_wire.proofs.VarintSteps.{one_byte}
use Rattle.jl_rows.specs.Messages.{known, known_as}
use Rattle.jl_rows.specs.Reading.{Part, Parts, part, is_wrong_wire, taken_if_known, walk, read_on}
use Rattle.jl_rows.specs.Usual.{IsShort, IsCounted, IsNumber, Says, ComesOn}
use Rattle.jl_rows.specs.declared.message.Message.{Message}
use Rattle.jl_rows.specs.declared.message.Shape.{Shape}
use Rattle.jl_rows.proofs.Walking.{walked}

-- a tag of one byte, and the content behind it
in_front : (bytes : List ℕ) (at end next tag number wire : ℕ) (content : Content) → at + 1 ≤ next → next ≤ end → at < end → end ≤ length bytes → get_or bytes at 0 ≡ tag → tag < 128 → tag / 8 ≡ number → tag % 8 ≡ wire → is_bad_tag tag ≡ false
    → content_of wire (slice_range bytes (at + 1) end) ≡ Ok (content, next - (at + 1)) → field (slice_range bytes at end) ≡ Ok (record { number = number; content = content; size = next - at })
in_front bytes at end next tag number wire content after before lt inside is small number_is wire_is good read =
    let said = one_byte bytes at end tag (at + 1 - at) lt inside (omega arith) (sym is) (omega arith) in
    let content_is : content_of (tag % 8) (slice_range bytes (at + 1) end) ≡ Ok (content, next - (at + 1)) = rw wire_is read in
    rw (← number_is) (whole_field bytes at (at + 1) end next tag content (omega arith) after before said good content_is)

-- a tag of a field number below 16
good_tag : (tag number wire : ℕ) → tag / 8 ≡ number → tag % 8 ≡ wire → 0 < number → number < 16 → (wire ≡ 0) ⊎ (wire ≡ 2) → is_bad_tag tag ≡ false
good_tag tag number wire number_is wire_is above below type =
    let some = ne_eqb number 0 (λ e. omega arith) in
    let small = le-ltb (2 ^ 29 - 1) number (omega arith) in
    elim type [
      | inl varint_is ↦ rw (number_is, wire_is, varint_is, some, small) refl
      | inr counted_is ↦ rw (number_is, wire_is, counted_is, some, small) refl
    ]

pub counted_in_front : (bytes : List ℕ) (at end len start : ℕ) → IsShort bytes (at + 1) (len, start) → start ≤ end → len ≤ end - start → end ≤ length bytes → IsCounted bytes at end (record { at = start; len = len })
counted_in_front bytes at end len start short le fits inside = record {
  after = omega (arith, short.after);
  before = omega arith;
  exact = λ number above below is.
      let tag = number * 8 + 2 in
      let number_is : tag / 8 ≡ number = omega arith in
      let wire_is : tag % 8 ≡ 2 = omega arith in
      let good = good_tag tag number 2 number_is wire_is above below (inr refl) in
      let read = counted bytes (at + 1) start end len (omega (arith, short.after)) le inside fits (short.exact end le inside) in
      in_front bytes at end (start + len) tag number 2 (Content.Bytes (slice_range bytes start (start + len))) (omega (arith, short.after)) (omega arith) (omega (arith, short.after)) inside is (omega arith) number_is wire_is good read;
}

pub number_in_front : (bytes : List ℕ) (at end number n next : ℕ) → IsShort bytes (at + 1) (n, next) → 0 < number → number < 16 → get_or bytes at 0 ≡ number * 8 → next ≤ end → end ≤ length bytes
    → field (slice_range bytes at end) ≡ Ok (record { number = number; content = Content.Number n; size = next - at })
number_in_front bytes at end number n next short above below is fits inside =
    let tag = number * 8 in
    let number_is : tag / 8 ≡ number = omega arith in
    let wire_is : tag % 8 ≡ 0 = omega arith in
    let good = good_tag tag number 0 number_is wire_is above below (inl refl) in
    let read : content_of 0 (slice_range bytes (at + 1) end) ≡ Ok (Content.Number n, next - (at + 1)) = rw (short.exact end fits inside) refl in
    in_front bytes at end next tag number 0 (Content.Number n) (omega (arith, short.after)) fits (omega (arith, short.after)) inside is (omega arith) number_is wire_is good read

-- a field in front, and the fields behind it
pub fields_in_front : (bytes : List ℕ) (at end next number : ℕ) (content : Content) → at ≤ next → next ≤ end → field (slice_range bytes at end) ≡ Ok (record { number = number; content = content; size = next - at })
    → fields (slice_range bytes at end) ≡ with_front (record { number = number; content = content; size = next - at }) (fields (slice_range bytes next end))
fields_in_front bytes at end next number content after before front =
    rw (← drop-range bytes at next end after before) (fields_next (slice_range bytes at end) (record { number = number; content = content; size = next - at }) front)

-- a known field in front, whose group is free and whose content says something
pub said_in_front : (says : Says) (m : Message) (bytes : List ℕ) (at end next number group : ℕ) (shape : Shape) (content : Content) (p : Part) (ps : Parts) → at ≤ next → next ≤ end
    → field (slice_range bytes at end) ≡ Ok (record { number = number; content = content; size = next - at }) → known_as m number ≡ Some (known number shape group)
    → is_wrong_wire shape content ≡ false → is_some (part ps group) ≡ false → says shape content ≡ Ok p → ComesOn says m bytes at next end ps (slice_set ps group (Some p))
unfolding read_on walk
said_in_front says m bytes at end next number group shape content p ps after before front is_known wire free said =
    let all = fields_in_front bytes at end next number content after before front in
    let taken_is : taken_if_known says (known_as m number) content ps ≡ Ok (slice_set ps group (Some p)) = rw (is_known, wire, free, said) refl in
    ap (walked says m ps) all ∙ ap (λ (r : Result Parts Kind). r >>= λ (qs : Parts). walk says m (fields (slice_range bytes next end)).items (fields (slice_range bytes next end)).fault qs) taken_is

-- the same, for bytes
pub counted_said : (says : Says) (m : Message) (bytes : List ℕ) (at end number group : ℕ) (shape : Shape) (span : Span) (p : Part) (ps : Parts) → IsCounted bytes at end span → 0 < number → number < 16 → get_or bytes at 0 ≡ number * 8 + 2
    → known_as m number ≡ Some (known number shape group) → is_wrong_wire shape (Content.Bytes (text_of bytes span)) ≡ false → is_some (part ps group) ≡ false → says shape (Content.Bytes (text_of bytes span)) ≡ Ok p
    → ComesOn says m bytes at (span.at + span.len) end ps (slice_set ps group (Some p))
counted_said says m bytes at end number group shape span p ps counted above below is is_known wire free said =
    said_in_front says m bytes at end (span.at + span.len) number group shape (Content.Bytes (text_of bytes span)) p ps (omega (arith, counted.after)) counted.before (counted.exact number above below is) is_known wire free said

-- the number in front, where its field stands there
pub number_is_there : (bytes : List ℕ) (at number n next : ℕ) → IsShort bytes (at + 1) (n, next) → 0 < number → number < 16 → get_or bytes at 0 ≡ number * 8 → IsNumber bytes at number (Some n, next)
number_is_there bytes at number n next short above below is = record {
  after = omega (arith, short.after);
  before = omega (arith, short.before);
  small = omega (arith, short.small);
  exact = λ says m group end ps says_number is_known free fits inside.
      said_in_front says m bytes at end next number group Shape.Number (Content.Number n) (Part.Number n) ps (omega (arith, short.after)) fits
      (number_in_front bytes at end number n next short above below is fits inside) is_known refl free (says_number n);
}
