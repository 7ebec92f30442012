-- One more element at the end of a list.
use Rattle.std.proofs.Common.{◌≡◌, ℕ, List, [], ◌∷◌, ◌++◌, length, refl, ap, sym, subst, arith}
use Rattle.jl_state.specs.Extents.{IsSound, IsFilled}
use Rattle.jl_sym_laws.specs.Summaries as sums
use Rattle.jl_sym.specs.declared.demand.Demand.{Demand}
use Rattle.jl_sym.specs.declared.summary.Write.{Write}
use Rattle.jl_sym.specs.Held.{AreTexts}
use Rattle.jl_sym.specs.Seen.{write_seen, demand_seen, demands_seen}
use Rattle.jl_compact.specs.Parts.{writes_seen}

pub empty_is : {A : Type 0} (xs : List A) → length xs ≡ 0 → xs ≡ []
empty_is [] e = refl
empty_is (x ∷ xs) e = absurd (omega (arith, e))

pub one_by_one : {A : Type 0} (xs : List A) (x : A) (ys : List A) → xs ++ (x ∷ ys) ≡ (xs ++ (x ∷ [])) ++ ys
one_by_one [] x ys = refl
one_by_one (z ∷ zs) x ys = ap (λ l. z ∷ l) (one_by_one zs x ys)

pub writes_push : (bytes : List ℕ) (ws : List Write) (w : Write) → writes_seen bytes (ws ++ (w ∷ [])) ≡ writes_seen bytes ws ++ (write_seen bytes w ∷ [])
writes_push bytes [] w = refl
writes_push bytes (v ∷ ws) w = ap (λ (l : List sums.Written). write_seen bytes v ∷ l) (writes_push bytes ws w)

pub demands_push : (ds : List Demand) (d : Demand) → demands_seen (ds ++ (d ∷ [])) ≡ demands_seen ds ++ (demand_seen d ∷ [])
demands_push [] d = refl
demands_push (e ∷ ds) d = ap (λ (l : List sums.Demand). demand_seen e ∷ l) (demands_push ds d)

texts_push : (bytes : List ℕ) (ws : List Write) (w : Write) → AreTexts bytes ws → IsSound bytes w.text → IsFilled w.text → AreTexts bytes (ws ++ (w ∷ []))
texts_push bytes [] w h s f = (s, f, tt)
texts_push bytes (v ∷ ws) w h s f = (h.0, h.1, texts_push bytes ws w h.2 s f)

pub texts_more : (bytes : List ℕ) (ws ws' : List Write) (w : Write) (vs rest : List Write) → rest ≡ w ∷ vs → ws' ≡ ws ++ (w ∷ []) → AreTexts bytes ws → AreTexts bytes rest → AreTexts bytes ws'
texts_more bytes ws ws' w vs rest e new h k =
    let q : AreTexts bytes (w ∷ vs) = subst (AreTexts bytes) e k in
    subst (AreTexts bytes) (sym new) (texts_push bytes ws w h q.0 q.1)

pub texts_after : (bytes : List ℕ) (w : Write) (vs rest : List Write) → rest ≡ w ∷ vs → AreTexts bytes rest → AreTexts bytes vs
texts_after bytes w vs rest e k = let q : AreTexts bytes (w ∷ vs) = subst (AreTexts bytes) e k in q.2

pub no_texts : (bytes : List ℕ) (ws : List Write) → ws ≡ [] → AreTexts bytes ws
no_texts bytes ws e = subst (AreTexts bytes) (sym e) tt
