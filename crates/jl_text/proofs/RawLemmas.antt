-- Bytes that stand for themselves are copied; the text goes on behind them.
use Rattle.std.proofs.Common.{◌≡◌, ℕ, suc, ◌+◌, ◌-◌, ◌<◌, ◌≤◌, true, List, [], ◌∷◌, ◌++◌, length, get_or, drop, slice_range, refl, sym, ap, ap₂, ◌∙◌, arith, append_assoc, append-nil, length-take, get_or-drop, get_or-take, take-append-drop, drop-drop}
use Rattle.std.proofs.lemmas.List.{drop_more, drop_all}
use Rattle.std.proofs.lemmas.List.Concat.{flat_map-append}
use Rattle.std.proofs.lemmas.Slice.Eq.{bytes_eq-Decides}
use Rattle.jl_text.specs.declared.escape.Terminal.{Terminal}
use Rattle.jl_text.specs.Escapes.{byte_text, is_raw, escaped, AreRaw, RawUpTo}

pub byte_of_raw : (t : Terminal) (b : ℕ) → is_raw t b ≡ true → byte_text t b ≡ b ∷ []
byte_of_raw t b h = (bytes_eq-Decides (byte_text t b) (b ∷ [])).0 h

pub escaped_raw : (t : Terminal) (text : List ℕ) → ((k : ℕ) → k < length text → is_raw t (get_or text k 0) ≡ true) → escaped t text ≡ text
escaped_raw t [] raw = refl
escaped_raw t (b ∷ text) raw = ap₂ ◌++◌ (byte_of_raw t b (raw 0 (omega arith))) (escaped_raw t text (λ k lt. raw (suc k) (omega arith)))

drop_split : (text : List ℕ) (at end : ℕ) → at ≤ end → drop at text ≡ slice_range text at end ++ drop end text
drop_split text at end ordered =
    let sum : at + (end - at) ≡ end = omega arith in
    sym (take-append-drop (end - at) (drop at text))
    ∙ ap (λ (rest : List ℕ). slice_range text at end ++ rest) (drop-drop (end - at) at text ∙ ap (λ (n : ℕ). drop n text) sum)

-- a stretch that stands for itself
pub stretch_raw : (t : Terminal) (text : List ℕ) (at end : ℕ) → RawUpTo t text at end → escaped t (slice_range text at end) ≡ slice_range text at end
stretch_raw t text at end run =
    escaped_raw t (slice_range text at end) λ k below.
    let inside : k < end - at = omega (arith, length-take (end - at) (drop at text)) in
    rw (get_or-take, get_or-drop) (run.raw (at + k) (omega arith) (omega (arith, run.ordered)))

-- a stretch that stands for itself, and what follows it
pub escaped-drop : (t : Terminal) (text : List ℕ) (at end : ℕ) → RawUpTo t text at end
    → escaped t (drop at text) ≡ slice_range text at end ++ escaped t (drop end text)
escaped-drop t text at end run =
    ap (escaped t) (drop_split text at end run.ordered) ∙ flat_map-append (byte_text t) (slice_range text at end) (drop end text)
    ∙ ap (λ (front : List ℕ). front ++ escaped t (drop end text)) (stretch_raw t text at end run)

-- a stretch and the byte behind it
pub stretch_more : (t : Terminal) (text : List ℕ) (at end : ℕ) (old copied new all : List ℕ) → RawUpTo t text at end → end < length text
    → old ++ escaped t (drop at text) ≡ all → copied ≡ old ++ slice_range text at end → new ≡ copied ++ byte_text t (get_or text end 0)
    → new ++ escaped t (drop (end + 1) text) ≡ all
stretch_more t text at end old copied new all run inside goes_on copies writes =
    let b = get_or text end 0 in
    let rest = escaped t (drop (end + 1) text) in
    let split : escaped t (drop at text) ≡ slice_range text at end ++ (byte_text t b ++ rest) =
    escaped-drop t text at end run ∙ ap (λ (l : List ℕ). slice_range text at end ++ escaped t l) (drop_more text end 0 inside) in
    ap (λ (l : List ℕ). l ++ rest) (writes ∙ ap (λ (l : List ℕ). l ++ byte_text t b) copies)
    ∙ append_assoc (old ++ slice_range text at end) (byte_text t b) rest ∙ append_assoc old (slice_range text at end) (byte_text t b ++ rest)
    ∙ ap (λ (l : List ℕ). old ++ l) (sym split) ∙ goes_on

-- the last stretch
pub stretch_all : (t : Terminal) (text : List ℕ) (at end : ℕ) (old copied all : List ℕ) → RawUpTo t text at end → length text ≤ end
    → old ++ escaped t (drop at text) ≡ all → copied ≡ old ++ slice_range text at end → copied ≡ all
stretch_all t text at end old copied all run past goes_on copies =
    let split : escaped t (drop at text) ≡ slice_range text at end =
    escaped-drop t text at end run ∙ ap (λ (l : List ℕ). slice_range text at end ++ escaped t l) (drop_all end text past) ∙ append-nil _ in
    copies ∙ ap (λ (l : List ℕ). old ++ l) (sym split) ∙ goes_on

-- a text that stands for itself from end to end
pub escaped_clean : (t : Terminal) (text : List ℕ) → AreRaw t text 0 (length text) → escaped t text ≡ text
escaped_clean t text raw = escaped_raw t text (λ k lt. raw k (omega arith) lt)
