-- Terms of usual shape.
use Rattle.std.proofs.Common.{◌≡◌, ℕ, ◌+◌, ◌*◌, ◌%◌, ◌^◌, ◌<◌, ◌≤◌, List, length, get_or, slice_range, slice_set, true, false, IfSome, Option, Some, None, is_some, unwrap_or, Result, Ok, refl, ap, ◌∙◌, subst, arith}
use Rattle.std.specs.Option.{option_map}
use Rattle.std.specs.Str.{is_utf8}
use Rattle.jl_base.specs.Results.{◌>>=◌}
use Rattle.jl_base.specs.Spans.{text_of}
use Rattle.jl_base.specs.declared.kind.Kind.{Kind}
use Rattle.jl_base.specs.declared.place.Span.{Span}
use Rattle.jl_wire.specs.Fields.{Content}
use Rattle.jl_rows.specs.Written as written
use Rattle.jl_rows.specs.Written.{Ids}
use Rattle.jl_rows.specs.Reading.{Part, Parts, part, number_32, text, ending, string, plain, nothing_said, read_on, iri, literal}
use Rattle.jl_rows.specs.Seen.{ending_seen}
use Rattle.jl_rows.specs.Usual.{IsCounted, IsNumber, IsEnding, with_part, ComesOn}
use Rattle.jl_rows.specs.declared.message.Message.{Message}
use Rattle.jl_rows.specs.declared.message.Shape.{Shape}
use Rattle.jl_rows.specs.declared.row.RawTail.{RawTail}
use Rattle.jl_rows.specs.declared.row.RawTail.TheVariants as tails
use Rattle.jl_rows.proofs.Walking.{read_end}
use Rattle.jl_rows.proofs.UsualFields.{counted_said}

-- a number that fits
pub low_bits : (n : ℕ) → n < 2 ^ 32 → n % 2 ^ 32 ≡ n
low_bits n lt = omega arith

abbrev number_part : Option ℕ → Option Part
number_part n = option_map (λ x. Part.Number x) n

abbrev ids_of : Parts → Result Ids Kind
ids_of ps = Ok (record { prefix = number_32 (part ps 0); name = number_32 (part ps 1) })

both_numbers : (p n : Option ℕ) → IfSome p (λ x. x < 2 ^ 32) → IfSome n (λ x. x < 2 ^ 32)
    → ids_of (with_part (with_part nothing_said 0 (number_part p)) 1 (number_part n)) ≡ Ok (record { prefix = unwrap_or p 0; name = unwrap_or n 0 })
both_numbers None None a b = refl
both_numbers (Some p) None a b = rw (low_bits p a) refl
both_numbers None (Some n) a b = rw (low_bits n b) refl
both_numbers (Some p) (Some n) a b = rw (low_bits p a, low_bits n b) refl

second_free : (p : Option ℕ) → is_some (part (with_part nothing_said 0 (number_part p)) 1) ≡ false
second_free None = refl
second_free (Some p) = refl

-- an IRI is its two numbers
pub iri_said : (bytes : List ℕ) (at place next end : ℕ) (p n : Option ℕ) → IsNumber bytes at 1 (p, place) → IsNumber bytes place 2 (n, next) → next ≡ end → end ≤ length bytes
    → iri (slice_range bytes at end) ≡ Ok (record { prefix = unwrap_or p 0; name = unwrap_or n 0 })
unfolding iri
iri_said bytes at place next end p n first second last inside =
    let before : place ≤ end = omega (arith, second.after) in
    let fits : next ≤ end = omega arith in
    let ps = with_part nothing_said 0 (number_part p) in
    let qs = with_part ps 1 (number_part n) in
    let said : read_on plain Message.Iri nothing_said (slice_range bytes at end) ≡ Ok qs =
    first.exact plain Message.Iri 0 end nothing_said (λ x. refl) refl refl before inside
    ∙ second.exact plain Message.Iri 1 end ps (λ x. refl) refl (second_free p) fits inside
    ∙ read_end plain Message.Iri bytes next end qs last in
    ap (λ (r : Result Parts Kind). r >>= λ (ps : Parts). ids_of ps) said ∙ both_numbers p n first.small second.small

-- a text is a string
pub string_said : (t : List ℕ) → true ≡ is_utf8 t → string t ≡ Ok t
string_said t e = rw (← e) refl

-- a language tag up to the end
pub tag_ending : (bytes : List ℕ) (at end : ℕ) (span : Span) → IsCounted bytes at end span → get_or bytes at 0 ≡ 18 → span.at + span.len ≡ end → end ≤ length bytes → true ≡ is_utf8 (text_of bytes span) → IsEnding bytes at end (tails.Lang span)
tag_ending bytes at end span counted is last inside utf8 = record {
  said = Some (Part.Text (text_of bytes span));
  says = refl;
  inside = omega arith;
  exact = λ ps free.
      let said : plain Shape.Text (Content.Bytes (text_of bytes span)) ≡ Ok (Part.Text (text_of bytes span)) = rw (string_said (text_of bytes span) utf8) refl in
      let tag : get_or bytes at 0 ≡ 2 * 8 + 2 = omega arith in
      subst (λ (n : ℕ). ComesOn plain Message.Literal bytes at n end ps (slice_set ps 1 (Some (Part.Text (text_of bytes span))))) last
      (counted_said plain Message.Literal bytes at end 2 1 Shape.Text span (Part.Text (text_of bytes span)) ps counted (omega arith) (omega arith) tag refl refl free said);
}

-- a datatype up to the end
pub datatype_ending : (bytes : List ℕ) (at next end n : ℕ) → IsNumber bytes at 3 (Some n, next) → next ≡ end → end ≤ length bytes → IsEnding bytes at end (tails.Typed n)
datatype_ending bytes at next end n number last inside = record {
  said = Some (Part.Number n);
  says = ap (λ (x : ℕ). written.Typed x) (low_bits n number.small);
  inside = tt;
  exact = λ ps free.
      subst (λ (x : ℕ). ComesOn plain Message.Literal bytes at x end ps (slice_set ps 1 (Some (Part.Number n)))) last
      (number.exact plain Message.Literal 1 end ps (λ x. refl) refl free (omega arith) inside);
}

abbrev literal_of : Parts → Result written.Term Kind
literal_of ps = Ok (written.Literal (text (part ps 0)) (ending (part ps 1)))

both_parts : (t : List ℕ) (said : Option Part) → literal_of (with_part (slice_set nothing_said 0 (Some (Part.Text t))) 1 said) ≡ Ok (written.Literal t (ending said))
both_parts t None = refl
both_parts t (Some p) = refl

-- a literal is its lexical form and what follows it
literal_read : (bytes : List ℕ) (at end : ℕ) (lex : Span) (tail : RawTail) → IsCounted bytes at end lex → get_or bytes at 0 ≡ 10 → true ≡ is_utf8 (text_of bytes lex) → IsEnding bytes (lex.at + lex.len) end tail
    → literal (slice_range bytes at end) ≡ Ok (written.Literal (text_of bytes lex) (ending_seen bytes tail))
unfolding literal
literal_read bytes at end lex tail counted is utf8 rest =
    let t = text_of bytes lex in
    let tag : get_or bytes at 0 ≡ 1 * 8 + 2 = omega arith in
    let lexical_is : plain Shape.Text (Content.Bytes t) ≡ Ok (Part.Text t) = rw (string_said t utf8) refl in
    let ps = slice_set nothing_said 0 (Some (Part.Text t)) in
    let qs = with_part ps 1 rest.said in
    let said : read_on plain Message.Literal nothing_said (slice_range bytes at end) ≡ Ok qs =
    counted_said plain Message.Literal bytes at end 1 0 Shape.Text lex (Part.Text t) nothing_said counted (omega arith) (omega arith) tag refl refl refl lexical_is
    ∙ rest.exact ps refl
    ∙ read_end plain Message.Literal bytes end end qs refl in
    ap (λ (r : Result Parts Kind). r >>= λ (ps : Parts). literal_of ps) said ∙ both_parts t rest.said ∙ ap (λ (e : written.Ending). Ok (written.Literal t e)) rest.says

pub literal_said : (bytes : List ℕ) (span lex : Span) (end start : ℕ) (tail : RawTail) → end ≡ span.at + span.len → start ≡ lex.at + lex.len → IsCounted bytes span.at end lex → get_or bytes span.at 0 ≡ 10 → true ≡ is_utf8 (text_of bytes lex) → IsEnding bytes start end tail
    → literal (text_of bytes span) ≡ Ok (written.Literal (text_of bytes lex) (ending_seen bytes tail))
literal_said bytes span lex end start tail whole behind counted is utf8 rest =
    let rest_is : IsEnding bytes (lex.at + lex.len) end tail = subst (λ (n : ℕ). IsEnding bytes n end tail) behind rest in
    subst (λ (n : ℕ). literal (slice_range bytes span.at n) ≡ Ok (written.Literal (text_of bytes lex) (ending_seen bytes tail))) whole
    (literal_read bytes span.at end lex tail counted is utf8 rest_is)
