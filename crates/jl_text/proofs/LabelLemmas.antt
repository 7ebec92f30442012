-- A written label is read back.
use Rattle.std.proofs.Common.{◌≡◌, ℕ, suc, ◌+◌, ◌*◌, ◌/◌, ◌%◌, ◌<◌, ◌&&◌, not, true, false, List, [], ◌∷◌, ◌++◌, get_or, nat_eq, Fits, w8, refl, sym, ap, ◌∙◌, inl, inr}
use Rattle.std.proofs.lemmas.Bool.{agree_below_at, cases_Bool, cond-true, cond-false, eqb-true, not-true, and_parts}
use Rattle.std.specs.Char.{digit_value, is_ascii_alphanumeric}
use Rattle.std.specs.Fmt.{digit_glyph}
use Rattle.std.specs.List.{flat_map}
use Rattle.jl_text.specs.Line.{label_byte, label_escape, label_written}
use Rattle.jl_text.specs.Labels.{label_read}

read_raw : (b : ℕ) (rest : List ℕ) → nat_eq b 0x58 ≡ false → label_read (b ∷ rest) ≡ b ∷ label_read rest
unfolding label_read
read_raw b [] h = cond-false _ _ _ h
read_raw b (c ∷ []) h = cond-false _ _ _ h
read_raw b (c ∷ d ∷ rest) h = cond-false _ _ _ h

-- the two digits of a byte say it
digits_of_byte : (b : ℕ) → b < 256 → 16 * digit_value (digit_glyph true (b / 16)) + digit_value (digit_glyph true (b % 16)) ≡ b
digits_of_byte b lt = eqb-true _ b (agree_below_at (λ k. nat_eq (16 * digit_value (digit_glyph true (k / 16)) + digit_value (digit_glyph true (k % 16))) k) (λ _. true) 256 b refl lt)

read_escape : (b : ℕ) (rest : List ℕ) → b < 256 → label_read (label_escape b ++ rest) ≡ b ∷ label_read rest
unfolding label_read
read_escape b rest lt = ap (λ n. n ∷ label_read rest) (digits_of_byte b lt)

read_byte : (b : ℕ) (rest : List ℕ) → b < 256 → label_read (label_byte b ++ rest) ≡ b ∷ label_read rest
unfolding label_byte
read_byte b rest lt =
    elim (cases_Bool (is_ascii_alphanumeric b && not (nat_eq b 0x58))) [
      | inl raw ↦
          ap (λ (text : List ℕ). label_read (text ++ rest)) (cond-true _ (b ∷ []) (label_escape b) raw)
          ∙ read_raw b rest (not-true _ (and_parts (is_ascii_alphanumeric b) (not (nat_eq b 0x58)) raw).1)
      | inr other ↦
          ap (λ (text : List ℕ). label_read (text ++ rest)) (cond-false _ (b ∷ []) (label_escape b) other)
          ∙ read_escape b rest lt
    ]

read_bytes : (label : List ℕ) → ((k : ℕ) → Fits w8 (get_or label k 0)) → label_read (flat_map label_byte label) ≡ label
unfolding label_read
read_bytes [] fits = refl
read_bytes (b ∷ label) fits = read_byte b (flat_map label_byte label) (fits 0).fits ∙ ap (λ rest. b ∷ rest) (read_bytes label (λ k. fits (suc k)))

pub read_back : (label : List ℕ) → ((k : ℕ) → Fits w8 (get_or label k 0)) → label_read (label_written label) ≡ label
unfolding label_read label_written
read_back [] fits = refl
read_back (b ∷ label) fits = read_bytes (b ∷ label) fits

pub stay_apart : (first second : List ℕ) → ((k : ℕ) → Fits w8 (get_or first k 0)) → ((k : ℕ) → Fits w8 (get_or second k 0))
    → label_written first ≡ label_written second → first ≡ second
stay_apart first second fits fits' alike = sym (read_back first fits) ∙ ap label_read alike ∙ read_back second fits'
