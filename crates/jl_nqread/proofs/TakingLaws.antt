-- Runs and closed parts, byte by byte.
use Rattle.std.proofs.Common.{◌≡◌, ℕ, zero, suc, ◌+◌, ◌-◌, ◌<◌, Bool, true, false, List, [], ◌∷◌, length, drop, get_or, Option, Some, None, refl, sym, ap, ◌∙◌, arith}
use Rattle.std.specs.Prelude.{◌==◌}
use Rattle.std.proofs.lemmas.List.{drop_more, drop-drop}
use Rattle.jl_nqread.specs.Taking.{starts, past, closed}

-- a run goes on over a byte, and ends before one
took : (test : List ℕ → Bool) (b : ℕ) (rest : List ℕ) → test (b ∷ rest) ≡ true → past test (b ∷ rest) ≡ past test rest
unfolding past
took test b rest is = rw is refl

pub past_more : (test : List ℕ → Bool) (bytes : List ℕ) (at : ℕ) → at < length bytes → test (drop at bytes) ≡ true → past test (drop at bytes) ≡ past test (drop (at + 1) bytes)
past_more test bytes at inside is =
    let more = drop_more bytes at 0 inside in
    ap (past test) more ∙ took test (get_or bytes at 0) (drop (at + 1) bytes) (ap test (sym more) ∙ is)

pub past_stop : (test : List ℕ → Bool) (text : List ℕ) → test text ≡ false → past test text ≡ text
unfolding past
past_stop test [] is = refl
past_stop test (b ∷ rest) is = rw is refl

-- bytes that are to be skipped may as well be gone
skipped : (size : List ℕ → Option ℕ) (close skip : ℕ) (text : List ℕ) → closed size close skip text ≡ closed size close 0 (drop skip text)
unfolding closed
skipped size close zero text = refl
skipped size close (suc skip) [] = refl
skipped size close (suc skip) (b ∷ rest) = skipped size close skip rest

-- a closed part at its end
closes : (size : List ℕ → Option ℕ) (close b : ℕ) (rest : List ℕ) → (b == close) ≡ true → closed size close 0 (b ∷ rest) ≡ Some rest
unfolding closed
closes size close b rest is = rw is refl

pub closed_here : (size : List ℕ → Option ℕ) (close : ℕ) (bytes : List ℕ) (at : ℕ) → at < length bytes → starts (λ b. b == close) (drop at bytes) ≡ true → closed size close 0 (drop at bytes) ≡ Some (drop (at + 1) bytes)
closed_here size close bytes at inside is =
    let more = drop_more bytes at 0 inside in
    ap (closed size close 0) more ∙ closes size close _ _ (ap (starts (λ (b : ℕ). b == close)) (sym more) ∙ is)

-- where no character stands
pub closed_bad : (size : List ℕ → Option ℕ) (close : ℕ) (text : List ℕ) → starts (λ b. b == close) text ≡ false → size text ≡ None → closed size close 0 text ≡ None
unfolding closed
closed_bad size close [] is none = refl
closed_bad size close (b ∷ rest) is none = rw (is, none) refl

-- at a character
goes_on : (size : List ℕ → Option ℕ) (close b n : ℕ) (rest : List ℕ) → (b == close) ≡ false → size (b ∷ rest) ≡ Some n → closed size close 0 (b ∷ rest) ≡ closed size close (n - 1) rest
unfolding closed
goes_on size close b n rest is some = rw (is, some) refl

pub closed_more : (size : List ℕ → Option ℕ) (close : ℕ) (bytes : List ℕ) (at n : ℕ) → at < length bytes → starts (λ b. b == close) (drop at bytes) ≡ false → size (drop at bytes) ≡ Some n → 0 < n
    → closed size close 0 (drop at bytes) ≡ closed size close 0 (drop (at + n) bytes)
closed_more size close bytes at n inside is some above =
    let more = drop_more bytes at 0 inside in
    let same : at + 1 + (n - 1) ≡ at + n = omega (arith, above) in
    ap (closed size close 0) more
    ∙ goes_on size close _ n _ (ap (starts (λ (b : ℕ). b == close)) (sym more) ∙ is) (ap size (sym more) ∙ some)
    ∙ skipped size close (n - 1) (drop (at + 1) bytes)
    ∙ ap (closed size close 0) (drop-drop (n - 1) (at + 1) bytes)
    ∙ ap (λ (k : ℕ). closed size close 0 (drop k bytes)) same
