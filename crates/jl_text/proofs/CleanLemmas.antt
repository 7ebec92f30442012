-- A text is written as it is exactly where each of its bytes stands for itself.
use Rattle.std.proofs.Common.{◌≡◌, ℕ, ◌≤◌, ◌↔◌, true, List, [], ◌∷◌, ◌++◌, length, codes, refl, ap, ap₂, ◌∙◌, arith, length-append}
use Rattle.std.specs.List.{list_all}
use Rattle.std.proofs.lemmas.Bool.{and_parts, and_from}
use Rattle.std.proofs.lemmas.Bool.Decides.{nat_tests}
use Rattle.std.proofs.lemmas.Slice.Eq.{bytes_eq-Decides}
use Rattle.jl_text.specs.declared.escape.Terminal.{Terminal}
use Rattle.jl_text.specs.declared.escape.Terminal.TheVariants.{IriRef, StringLiteral, BlankNodeLabel}
use Rattle.jl_text.specs.Line.{iri_byte, string_byte, label_byte, iri_escaped, string_escaped, label_written}
use Rattle.jl_text.specs.Escapes.{byte_text, is_raw, escaped, AreRaw}
use Rattle.jl_text.proofs.RawLemmas.{byte_of_raw, escaped_clean}

-- no byte is left out
in_iri : (b : ℕ) → 1 ≤ length (iri_byte b)
unfolding iri_byte
in_iri b = grind (arith, nat_tests)

in_string : (b : ℕ) → 1 ≤ length (string_byte b)
unfolding string_byte
in_string b = grind (arith, nat_tests)

in_label : (b : ℕ) → 1 ≤ length (label_byte b)
unfolding label_byte
in_label b = grind (arith, nat_tests)

is_written : (t : Terminal) (b : ℕ) → 1 ≤ length (byte_text t b)
is_written IriRef b = in_iri b
is_written StringLiteral b = in_string b
is_written BlankNodeLabel b = in_label b

length-escaped : (t : Terminal) (text : List ℕ) → length text ≤ length (escaped t text)
length-escaped t [] = omega arith
length-escaped t (b ∷ text) = omega (arith, is_written t b, length-escaped t text, length-append (byte_text t b) (escaped t text))

same_head : (w : List ℕ) (b : ℕ) (rest text : List ℕ) → 1 ≤ length w → length text ≤ length rest → w ++ rest ≡ b ∷ text → (w ≡ b ∷ []) × (rest ≡ text)
same_head [] b rest text some long e = absurd (omega arith)
same_head (x ∷ []) b rest text some long e = (cc, cc)
same_head (x ∷ y ∷ w) b rest text some long e =
    absurd (omega (arith, ap length e, length-append w rest))

pub all_raw_from_escaped : (t : Terminal) (text : List ℕ) → escaped t text ≡ text → list_all (is_raw t) text ≡ true
all_raw_from_escaped t [] e = refl
all_raw_from_escaped t (b ∷ text) e =
    let same = same_head (byte_text t b) b (escaped t text) text (is_written t b) (length-escaped t text) e in
    and_from _ _ ((bytes_eq-Decides (byte_text t b) (b ∷ [])).1 same.0) (all_raw_from_escaped t text same.1)

pub escaped_from_all_raw : (t : Terminal) (text : List ℕ) → list_all (is_raw t) text ≡ true → escaped t text ≡ text
escaped_from_all_raw t [] h = refl
escaped_from_all_raw t (b ∷ text) h =
    let parts = and_parts (is_raw t b) (list_all (is_raw t) text) h in
    ap₂ ◌++◌ (byte_of_raw t b parts.0) (escaped_from_all_raw t text parts.1)

pub clean_iri : (text : List ℕ) → (list_all (is_raw IriRef) text ≡ true) ↔ (iri_escaped text ≡ text)
clean_iri text = (escaped_from_all_raw IriRef text, all_raw_from_escaped IriRef text)

pub clean_string : (text : List ℕ) → AreRaw StringLiteral text 0 (length text) → string_escaped text ≡ text
clean_string text raw = escaped_clean StringLiteral text raw

pub empty_label : (label : List ℕ) → length label ≡ 0 → label_written label ≡ codes "X"
unfolding label_written
empty_label [] none = refl
empty_label (b ∷ label) none = absurd (omega arith)

pub escaped_label : (label : List ℕ) → (length label ≡ 0 → ⊥) → label_written label ≡ escaped BlankNodeLabel label
unfolding label_written
escaped_label [] some = absurd (some refl)
escaped_label (b ∷ label) some = refl

pub clean_label : (label : List ℕ) → (length label ≡ 0 → ⊥) → list_all (is_raw BlankNodeLabel) label ≡ true → label_written label ≡ label
clean_label label some raw = escaped_label label some ∙ escaped_from_all_raw BlankNodeLabel label raw
