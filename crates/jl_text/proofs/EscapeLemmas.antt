-- The table of raw bytes against the definitions, and the escapes of the others.
use Rattle.std.proofs.Common.{◌≡◌, ℕ, ◌<◌, Bool, true, false, not, ◌||◌, cond, nat_eq, List, [], ◌∷◌, get_or, bit_and, refl, sym, ap, ◌∙◌, arith}
use Rattle.std.specs.Str.{bytes_eq}
use Rattle.std.proofs.lemmas.Bool.{agree_below_at, cond-true, cond-false, eq-eqb, ne_eqb}
use Rattle.std.proofs.lemmas.Slice.Eq.{bytes_eq-Decides}
use Rattle.std.proofs.lemmas.Bool.Decides.{nat_tests}
use Rattle.jl_text.specs.declared.escape.TheConstants.{RAW, LETTERS}
use Rattle.jl_text.specs.declared.escape.Terminal.TheVariants.{IriRef, StringLiteral, BlankNodeLabel}
use Rattle.jl_text.specs.Line.{iri_byte, string_byte, label_byte, unicode_escape, label_escape}
use Rattle.jl_text.specs.Escapes.{is_raw}

pub table_of_iris : (b : ℕ) → b < 256 → not (nat_eq (bit_and (get_or RAW b 0) 1) 0) ≡ is_raw IriRef b
unfolding iri_byte
table_of_iris b lt = agree_below_at (λ k. not (nat_eq (bit_and (get_or RAW k 0) 1) 0)) (is_raw IriRef) 256 b refl lt

pub table_of_strings : (b : ℕ) → b < 256 → not (nat_eq (bit_and (get_or RAW b 0) 2) 0) ≡ is_raw StringLiteral b
unfolding string_byte
table_of_strings b lt = agree_below_at (λ k. not (nat_eq (bit_and (get_or RAW k 0) 2) 0)) (is_raw StringLiteral) 256 b refl lt

pub table_of_labels : (b : ℕ) → b < 256 → not (nat_eq (bit_and (get_or RAW b 0) 4) 0) ≡ is_raw BlankNodeLabel b
unfolding label_byte
table_of_labels b lt = agree_below_at (λ k. not (nat_eq (bit_and (get_or RAW k 0) 4) 0)) (is_raw BlankNodeLabel) 256 b refl lt

pub escape_of_iri : (b : ℕ) → is_raw IriRef b ≡ false → iri_byte b ≡ unicode_escape b
unfolding iri_byte
escape_of_iri b h = grind (arith, nat_tests)

pub escape_of_label : (b : ℕ) → is_raw BlankNodeLabel b ≡ false → label_byte b ≡ label_escape b
unfolding label_byte
escape_of_label b h = grind (arith, nat_tests)

-- the escape of a byte in a string, by its letter
abbrev letter_text : ℕ → ℕ → List ℕ
letter_text letter b = cond (nat_eq letter 0) (unicode_escape b) (92 ∷ letter ∷ [])

abbrev is_written_by_letter : ℕ → Bool
is_written_by_letter b = is_raw StringLiteral b || bytes_eq (string_byte b) (letter_text (get_or LETTERS b 0) b)

escape_of_string : (b : ℕ) → b < 256 → is_raw StringLiteral b ≡ false → string_byte b ≡ letter_text (get_or LETTERS b 0) b
unfolding string_byte
escape_of_string b lt escaped =
    let text = letter_text (get_or LETTERS b 0) b in
    let all : is_written_by_letter b ≡ true = agree_below_at is_written_by_letter (λ _. true) 256 b refl lt in
    (bytes_eq-Decides (string_byte b) text).0 (ap (λ (raw : Bool). raw || bytes_eq (string_byte b) text) (sym escaped) ∙ all)

pub letter_of_string : (b : ℕ) → b < 256 → is_raw StringLiteral b ≡ false → (get_or LETTERS b 0 ≡ 0 → ⊥) → string_byte b ≡ 92 ∷ get_or LETTERS b 0 ∷ []
letter_of_string b lt escaped some = escape_of_string b lt escaped ∙ cond-false _ _ _ (ne_eqb (get_or LETTERS b 0) 0 some)

pub unicode_of_string : (b : ℕ) → b < 256 → is_raw StringLiteral b ≡ false → get_or LETTERS b 0 ≡ 0 → string_byte b ≡ unicode_escape b
unicode_of_string b lt escaped none = escape_of_string b lt escaped ∙ cond-true _ _ _ (eq-eqb (get_or LETTERS b 0) 0 none)
