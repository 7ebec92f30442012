-- Fields are read back.
use Rattle.std.proofs.Common.{◌≡◌, ℕ, ◌+◌, ◌-◌, ◌*◌, ◌/◌, ◌%◌, ◌^◌, ◌<◌, List, [], ◌∷◌, ◌++◌, length, Ok, nat_lt, nat_eq, false, refl, ap, ◌∙◌, arith, append_assoc, length-append}
use lib.Seq.{drop-append_seam, take-append_seam}
use Rattle.std.proofs.lemmas.Bool.{le-ltb, ne_eqb}
use Rattle.std.proofs.lemmas.Nat.{div-mul-add, mod-mul-add}
use Rattle.jl_base.specs.Results.{Reading, with_front}
use Rattle.jl_base.specs.declared.kind.Kind.{Kind}
use Rattle.jl_wire.specs.Varint.{varint}
use Rattle.jl_wire.specs.Fields as wire
use Rattle.jl_wire.specs.Fields.{field, fields, is_bad_tag}
use Rattle.jl_wire.proofs.FieldLaws.{fields_next, fields_end}
use Rattle.jl_spell.specs.Varints.{varint_of}
use Rattle.jl_spell.specs.Fields.{Held, Number, Bytes, Filled, IsFilled, tag_of, field_of, fields_of, field_read}
use Rattle.jl_spell.specs.Laws.{FieldsReadBack}
use Rattle.jl_spell.proofs.VarintLaws.{varint_back}

good_tag : (number wire : ℕ) → 0 < number → number < 2 ^ 29 → wire < 3 → is_bad_tag (number * 8 + wire) ≡ false
good_tag number wire above below small =
    let high : (number * 8 + wire) / 8 ≡ number = div-mul-add number 8 wire (omega arith) in
    let low : (number * 8 + wire) % 8 ≡ wire = mod-mul-add number 8 wire (omega arith) in
    let a : nat_eq number 0 ≡ false = ne_eqb number 0 (λ is. omega (arith, is)) in
    let b : nat_lt (2 ^ 29 - 1) number ≡ false = le-ltb (2 ^ 29 - 1) number (omega arith) in
    let c : nat_eq wire 3 ≡ false = ne_eqb wire 3 (λ is. omega (arith, is)) in
    let d : nat_eq wire 4 ≡ false = ne_eqb wire 4 (λ is. omega (arith, is)) in
    let e : nat_lt 5 wire ≡ false = le-ltb 5 wire (omega arith) in
    rw (high, low, a, b, c, d, e) refl

-- a tag in front
tag_back : (number wire : ℕ) (rest : List ℕ) → number < 2 ^ 29 → wire < 3 → varint (tag_of number wire ++ rest) ≡ Ok (number * 8 + wire, length (tag_of number wire))
tag_back number wire rest below small = varint_back (number * 8 + wire) rest (omega arith)

number_back : (number n : ℕ) (rest : List ℕ) → 0 < number → number < 2 ^ 29 → n < 2 ^ 64 → field (field_of number (Number n) ++ rest) ≡ Ok (field_read (record { number = number; holds = Number n }))
unfolding field field_of
number_back number n rest above below fits =
    let tag = tag_of number 0 in
    let high : (number * 8 + 0) / 8 ≡ number = div-mul-add number 8 0 (omega arith) in
    let low : (number * 8 + 0) % 8 ≡ 0 = mod-mul-add number 8 0 (omega arith) in
    rw (append_assoc tag (varint_of n) rest, tag_back number 0 (varint_of n ++ rest) below (omega arith), good_tag number 0 above below (omega arith), low, drop-append_seam tag (varint_of n ++ rest), varint_back n rest fits, high, length-append tag (varint_of n)) refl

bytes_back : (number : ℕ) (t rest : List ℕ) → 0 < number → number < 2 ^ 29 → length t < 2 ^ 64 → field (field_of number (Bytes t) ++ rest) ≡ Ok (field_read (record { number = number; holds = Bytes t }))
unfolding field field_of
bytes_back number t rest above below fits =
    let tag = tag_of number 2 in
    let len = varint_of (length t) in
    let high : (number * 8 + 2) / 8 ≡ number = div-mul-add number 8 2 (omega arith) in
    let low : (number * 8 + 2) % 8 ≡ 2 = mod-mul-add number 8 2 (omega arith) in
    let enough : nat_lt (length (len ++ (t ++ rest)) - length len) (length t) ≡ false =
    le-ltb (length (len ++ (t ++ rest)) - length len) (length t) (omega (arith, length-append len (t ++ rest), length-append t rest)) in
    let size : length tag + (length len + length t) ≡ length tag + length len + length t = omega arith in
    rw (
      append_assoc (tag ++ len) t rest,
      append_assoc tag len (t ++ rest),
      tag_back number 2 (len ++ (t ++ rest)) below (omega arith),
      good_tag number 2 above below (omega arith),
      low,
      drop-append_seam tag (len ++ (t ++ rest)),
      varint_back (length t) (t ++ rest) fits,
      enough,
      drop-append_seam len (t ++ rest),
      take-append_seam t rest,
      high,
      length-append (tag ++ len) t,
      length-append tag len,
    )
    (ap (λ (n : ℕ). Ok (record { number = number; content = wire.Bytes t; size = n })) size)

pub field_back : (f : Filled) (rest : List ℕ) → IsFilled f → field (field_of f.number f.holds ++ rest) ≡ Ok (field_read f)
field_back f rest is = by_content f.number f.holds is
  where
    by_content : (number : ℕ) (h : Held) → IsFilled (record { number = number; holds = h }) → field (field_of number h ++ rest) ≡ Ok (field_read (record { number = number; holds = h }))
    by_content number (Number n) is = number_back number n rest is.0 is.1 is.2
    by_content number (Bytes t) is = bytes_back number t rest is.0 is.1 is.2

-- the field in front of others
pub fields_front : (f : Filled) (rest : List ℕ) → IsFilled f → fields (field_of f.number f.holds ++ rest) ≡ with_front (field_read f) (fields rest)
fields_front f rest is =
    fields_next (field_of f.number f.holds ++ rest) (field_read f) (field_back f rest is)
    ∙ ap (λ (bs : List ℕ). with_front (field_read f) (fields bs)) (drop-append_seam (field_of f.number f.holds) rest)

pub fields_back : FieldsReadBack
fields_back [] all = fields_end
fields_back (f ∷ fs) all =
    fields_front f (fields_of fs) all.0
    ∙ ap (λ (r : Reading wire.Field Kind). with_front (field_read f) r) (fields_back fs all.1)
