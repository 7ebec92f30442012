-- The terminals of the grammar in which some bytes are escaped.
use Rattle.std.specs.Prelude.{◌≡◌, ℕ, ◌<◌, ◌≤◌, Bool, true, false, List, [], ◌∷◌, length, slice_index}
use Rattle.std.specs.List.{flat_map}
use Rattle.std.specs.Str.{bytes_eq}
use Rattle.jl_text.specs.Line.{iri_byte, string_byte, label_byte}
use Rattle.jl_text.specs.declared.escape.Terminal.{Terminal}
use Rattle.jl_text.specs.declared.escape.Terminal.TheVariants.{IriRef, StringLiteral, BlankNodeLabel}

-- how a byte is written
abbrev pub byte_text : Terminal → ℕ → List ℕ
byte_text IriRef b = iri_byte b
byte_text StringLiteral b = string_byte b
byte_text BlankNodeLabel b = label_byte b

-- the byte stands for itself
abbrev pub is_raw : Terminal → ℕ → Bool
is_raw terminal b = bytes_eq (byte_text terminal b) (b ∷ [])

abbrev pub escaped : Terminal → List ℕ → List ℕ
escaped terminal text = flat_map (byte_text terminal) text

-- the bytes from one place up to another stand for themselves
abbrev pub AreRaw : Terminal → List ℕ → ℕ → ℕ → Type 0
AreRaw terminal text at end = (k : ℕ) → at ≤ k → k < end → is_raw terminal (slice_index text k) ≡ true

-- some bytes that stand for themselves, up to end
pub record RawUpTo (terminal : Terminal) (text : List ℕ) (at end : ℕ) : Type 0 where
  pub ordered : at ≤ end
  pub in_range : end ≤ length text
  pub raw : AreRaw terminal text at end

-- all bytes that stand for themselves, up to the first that doesn't
pub record RawRun (terminal : Terminal) (text : List ℕ) (at end : ℕ) : Type 0 where
  pub up_to : RawUpTo terminal text at end
  pub stops : end < length text → is_raw terminal (slice_index text end) ≡ false
