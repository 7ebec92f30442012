-- What stays known, and what is at hand by it.
use Rattle.std.proofs.Common.{◌≡◌, ℕ, ◌+◌, ◌-◌, ◌*◌, ◌<◌, ◌==◌, true, false, Option, Some, None, IfSome, IsSome, is_some, refl, ap, sym, subst, ◌∙◌, arith}
use Rattle.std.proofs.lemmas.Bool.{and_parts, eqb-true}
use Rattle.std.specs.FinMap.{get}
use Rattle.jl_scan.specs.Blocks.{edge, cell_of}
use Rattle.jl_scan.specs.Fields.{is_of}
use Rattle.jl_scan.specs.Reaching.{Known, is_at_hand_of, is_at_hand}
use Rattle.jl_scan.proofs.BlockLemmas.{edge_more}

module _ (known known' : Known) (keeps : (i : ℕ) (x : ℕ × ℕ) → get known i ≡ Some x → get known' i ≡ Some x) where
  later_of : (n l k : ℕ) (o : Option (ℕ × ℕ)) → get known (cell_of n l k) ≡ o → is_at_hand_of l k o ≡ true → is_at_hand n known' l k ≡ true
  later_of n l k None is at = absurd (let e : false ≡ true = at in cc)
  later_of n l k (Some x) is at = subst (λ (o : Option (ℕ × ℕ)). is_at_hand_of l k o ≡ true) (sym (keeps (cell_of n l k) x is)) at

  pub later : (n l k : ℕ) → is_at_hand n known l k ≡ true → is_at_hand n known' l k ≡ true
  later n l k at = later_of n l k (get known (cell_of n l k)) refl at

  some_of : (i : ℕ) (o : Option (ℕ × ℕ)) → get known i ≡ o → IsSome o → IsSome (get known' i)
  some_of i None is some = absurd cc
  some_of i (Some x) is some = ap (λ (o : Option (ℕ × ℕ)). is_some o) (keeps i x is)

  pub some_kept : (i j : ℕ) → j ≡ i → IsSome (get known i) → IsSome (get known' j)
  some_kept i j same some = subst (λ (k : ℕ). IsSome (get known' k)) (sym same) (some_of i (get known i) refl some)

-- a value of other runs isn't at hand
misfit_of : (l k : ℕ) (o : Option (ℕ × ℕ)) (x : ℕ × ℕ) → IfSome o (λ y. y ≡ x) → is_of (edge l k) (edge l (k + 1)) x ≡ false → is_at_hand_of l k o ≡ false
misfit_of l k None x same no_fit = refl
misfit_of l k (Some y) x same no_fit = ap (is_of (edge l k) (edge l (k + 1))) same ∙ no_fit

pub misfit : (known : Known) (n l k : ℕ) (x : ℕ × ℕ) → IfSome (get known (cell_of n l k)) (λ y. y ≡ x) → is_of (edge l k) (edge l (k + 1)) x ≡ false → is_at_hand n known l k ≡ false
misfit known n l k x same no_fit = misfit_of l k (get known (cell_of n l k)) x same no_fit

pub unknown : (known : Known) (n l k : ℕ) → get known (cell_of n l k) ≡ None → is_at_hand n known l k ≡ false
unknown known n l k none = ap (λ (o : Option (ℕ × ℕ)). is_at_hand_of l k o) none

pairs : (a b : ℕ) (x : ℕ × ℕ) → x.0 ≡ a → x.1 ≡ b → ◌≡◌ {A = ℕ × ℕ} x (a, b)
pairs a b x e e' =
    let P : ℕ → Type 0 = λ c. ◌≡◌ {A = ℕ × ℕ} (x.0, x.1) (c, x.1) in
    let Q : ℕ → Type 0 = λ d. ◌≡◌ {A = ℕ × ℕ} (x.0, x.1) (a, d) in
    subst Q e' (subst P e refl)

pub same_of : (a b : ℕ) (x : ℕ × ℕ) → is_of a b x ≡ true → ◌≡◌ {A = ℕ × ℕ} x (a, b)
same_of a b x e = let both = and_parts (x.0 == a) (x.1 == b) e in pairs a b x (eqb-true x.0 a both.0) (eqb-true x.1 b both.1)

-- both halves of a block are the block
pub both_are : (l k first second : ℕ) (a b x : ℕ × ℕ) → 0 < l → first ≡ 2 * k → second ≡ 2 * k + 1 → ◌≡◌ {A = ℕ × ℕ} a (edge (l - 1) first, edge (l - 1) (first + 1)) → ◌≡◌ {A = ℕ × ℕ} b (edge (l - 1) second, edge (l - 1) (second + 1))
    → ◌≡◌ {A = ℕ × ℕ} x (a.0, b.1) → ◌≡◌ {A = ℕ × ℕ} x (edge l k, edge l (k + 1))
both_are l k first second a b x some is is' ea eb ex =
    let end : second + 1 ≡ 2 * (k + 1) = omega (arith, is') in
    let e1 : edge (l - 1) first ≡ edge l k = ap (edge (l - 1)) is ∙ edge_more l k some in
    let e2 : edge (l - 1) (second + 1) ≡ edge l (k + 1) = ap (edge (l - 1)) end ∙ edge_more l (k + 1) some in
    let x0 : x.0 ≡ a.0 = ap (λ (p : ℕ × ℕ). p.0) ex in
    let x1 : x.1 ≡ b.1 = ap (λ (p : ℕ × ℕ). p.1) ex in
    let a0 : a.0 ≡ edge (l - 1) first = ap (λ (p : ℕ × ℕ). p.0) ea in
    let b1 : b.1 ≡ edge (l - 1) (second + 1) = ap (λ (p : ℕ × ℕ). p.1) eb in
    pairs (edge l k) (edge l (k + 1)) x (x0 ∙ (a0 ∙ e1)) (x1 ∙ (b1 ∙ e2))
