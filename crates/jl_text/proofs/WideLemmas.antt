-- A text among the bytes that are copied for it.
use Rattle.std.proofs.Common.{◌≡◌, ℕ, ◌+◌, ◌-◌, ◌<◌, ◌≤◌, List, ◌∷◌, ◌++◌, codes, length, take, drop, slice_range, ap, sym, ◌∙◌, arith, length-drop, length-take}
use Rattle.std.proofs.lemmas.List.{take-take}
use Rattle.jl_text.specs.declared.escape.Terminal.{Terminal}
use Rattle.jl_text.specs.declared.escape.Terminal.TheVariants.{StringLiteral, BlankNodeLabel}
use Rattle.std.proofs.lemmas.List.Concat.{flat_map-append}
use Rattle.jl_text.specs.Line.{iri_byte, iri_escaped, iri_text, string_escaped, label_written}
use Rattle.jl_text.specs.Escapes.{escaped, AreRaw}
use Rattle.jl_text.proofs.RawLemmas.{stretch_raw}
use Rattle.jl_text.proofs.CleanLemmas.{escaped_label}

pub front_of_copy : (bytes : List ℕ) (at len width : ℕ) → len ≤ width → take len (take width (drop at bytes)) ≡ slice_range bytes at (at + len)
front_of_copy bytes at len width within =
    let size : len ≡ at + len - at = omega arith in
    take-take len width (drop at bytes) within ∙ ap (λ n. take n (drop at bytes)) size

clean_at : (t : Terminal) (bytes : List ℕ) (at len : ℕ) → at + len ≤ length bytes → AreRaw t bytes at (at + len)
    → escaped t (slice_range bytes at (at + len)) ≡ slice_range bytes at (at + len)
clean_at t bytes at len inside raw = stretch_raw t bytes at (at + len) (record { ordered = omega arith; in_range = inside; raw = raw })

pub clean_string_at : (bytes : List ℕ) (at len : ℕ) → at + len ≤ length bytes → AreRaw StringLiteral bytes at (at + len)
    → string_escaped (slice_range bytes at (at + len)) ≡ slice_range bytes at (at + len)
clean_string_at bytes at len inside raw = clean_at StringLiteral bytes at len inside raw

pub clean_label_at : (bytes : List ℕ) (at len : ℕ) → at + len ≤ length bytes → 0 < len → AreRaw BlankNodeLabel bytes at (at + len)
    → label_written (slice_range bytes at (at + len)) ≡ slice_range bytes at (at + len)
clean_label_at bytes at len inside some raw =
    escaped_label (slice_range bytes at (at + len)) (λ none. omega (arith, none, length-take (at + len - at) (drop at bytes), length-drop at bytes))
    ∙ clean_at BlankNodeLabel bytes at len inside raw

-- an IRI of two texts that it has as they are
pub clean_iri_of_two : (p n : List ℕ) → iri_escaped p ≡ p → iri_escaped n ≡ n → ((codes "<" ++ p) ++ n) ++ codes ">" ≡ iri_text (p ++ n)
clean_iri_of_two p n e f =
    ap (λ (xs : List ℕ). 60 ∷ xs) (ap (λ (xs : List ℕ). xs ++ codes ">") (sym (flat_map-append iri_byte p n ∙ ap (λ (xs : List ℕ). xs ++ iri_escaped n) e ∙ ap (λ (xs : List ℕ). p ++ xs) f)))
