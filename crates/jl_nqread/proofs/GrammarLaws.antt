-- Digits, labels and triple terms, a step at a time.
use Rattle.std.proofs.Common.{◌≡◌, ℕ, zero, suc, ◌+◌, ◌-◌, ◌<◌, ◌≤◌, Bool, true, false, List, [], ◌∷◌, length, drop, get_or, None, refl, sym, ap, ◌∙◌, cond, arith}
use Rattle.std.specs.Prelude.{◌==◌}
use Rattle.std.proofs.lemmas.List.{drop_more, at_drop_all, drop-drop}
use Rattle.jl_nqread.specs.Taking.{begun, starts, twice}
use Rattle.jl_nqread.specs.Grammar.{digit, digit_at, is_label_byte, label_end, plain_term, three_terms, term}

pub digit_there : (bytes : List ℕ) (at k : ℕ) → digit_at k (drop at bytes) ≡ digit (drop (at + k) bytes)
unfolding digit_at
digit_there bytes at k = ap digit (drop-drop k at bytes)

pub no_digit : (bytes : List ℕ) (at k : ℕ) → length bytes ≤ at + k → digit_at k (drop at bytes) ≡ None
no_digit bytes at k past = digit_there bytes at k ∙ at_drop_all digit bytes (at + k) past

label_took : (left : List ℕ) (b : ℕ) (rest : List ℕ) → is_label_byte b ≡ true → label_end left (b ∷ rest) ≡ label_end (cond (b == 46) left rest) rest
unfolding label_end
label_took left b rest is = rw is refl

left_after : (t : Bool) (bytes : List ℕ) (end next : ℕ) → cond t (drop end bytes) (drop next bytes) ≡ drop (cond t end next) bytes
left_after true bytes end next = refl
left_after false bytes end next = refl

pub label_more : (bytes : List ℕ) (end at now : ℕ) → at < length bytes → starts is_label_byte (drop at bytes) ≡ true → now ≡ cond (get_or bytes at 0 == 46) end (at + 1)
    → label_end (drop end bytes) (drop at bytes) ≡ label_end (drop now bytes) (drop (at + 1) bytes)
label_more bytes end at now inside is e =
    let more = drop_more bytes at 0 inside in
    ap (label_end (drop end bytes)) more
    ∙ label_took (drop end bytes) (get_or bytes at 0) (drop (at + 1) bytes) (ap (starts is_label_byte) (sym more) ∙ is)
    ∙ ap (λ (t : List ℕ). label_end t (drop (at + 1) bytes)) (left_after (get_or bytes at 0 == 46) bytes end (at + 1) ∙ ap (λ (k : ℕ). drop k bytes) (sym e))

pub label_stop : (left text : List ℕ) → starts is_label_byte text ≡ false → label_end left text ≡ left
unfolding label_end
label_stop left [] is = refl
label_stop left (b ∷ rest) is = rw is refl

pub shallow : (depth : ℕ) (text : List ℕ) → depth ≡ 0 → term depth text ≡ plain_term text
unfolding term
shallow zero text is = refl
shallow (suc depth) text is = absurd (omega arith)

pub deeper : (depth : ℕ) (text : List ℕ) → (depth ≡ 0 → ⊥) → term depth text ≡ begun (twice 60 text) (three_terms (term (depth - 1))) (plain_term text)
unfolding term
deeper zero text is = absurd (is refl)
deeper (suc depth) text is = let less : suc depth - 1 ≡ depth = omega arith in rw less refl
