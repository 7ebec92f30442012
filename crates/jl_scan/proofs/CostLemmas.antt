-- What a block costs, as more is at hand.
use Rattle.std.proofs.Common.{◌≡◌, ℕ, zero, suc, ◌+◌, ◌-◌, ◌*◌, ◌<◌, ◌≤◌, if◌then◌else◌, Bool, true, false, refl, ap, sym, subst, ◌∙◌, ⊎_elim, arith}
use Rattle.std.proofs.lemmas.Bool.{cases_lt, cond-false}
use Rattle.jl_scan.specs.Blocks.{edge}
use Rattle.jl_scan.specs.Costs.{weight, through, cost}
use Rattle.jl_scan.proofs.BlockLemmas.{edge_end}

none_if : (a b : Bool) (x y : ℕ) → (a ≡ true → b ≡ true) → y ≤ x → (if b then 0 else y) ≤ (if a then 0 else x)
none_if a true x y then_b le = omega arith
none_if false false x y then_b le = le
none_if true false x y then_b le = absurd (let e = then_b refl in cc)

at_most : (a : Bool) (x y : ℕ) → x ≤ y → (if a then 0 else x) ≤ y
at_most true x y le = omega arith
at_most false x y le = le

pub weight_through : (frames : ℕ → ℕ) (l k : ℕ) → weight frames l k + through frames (edge l k) ≡ through frames (edge l (k + 1))
weight_through frames zero k = let same : k + 1 ≡ suc k = omega arith in rw same (omega arith)
weight_through frames (suc l) k =
    let end : through frames (edge l (2 * k + 1 + 1)) ≡ through frames (edge (suc l) (k + 1)) = ap (through frames) (edge_end l k) in
    omega (arith, weight_through frames l (2 * k), weight_through frames l (2 * k + 1), end)

pub through_mono : (frames : ℕ → ℕ) (a b : ℕ) → a ≤ b → through frames a ≤ through frames b
through_mono frames a zero le = let same : a ≡ 0 = omega arith in rw same (omega arith)
through_mono frames a (suc b) le =
    ⊎_elim
    (λ less. omega (arith, through_mono frames a b (omega arith)))
    (λ (all : suc b ≤ a). let same : a ≡ suc b = omega arith in let P : ℕ → Type 0 = λ m. through frames m ≤ through frames (suc b) in subst P (sym same) (omega arith))
    (cases_lt a (suc b))

module _ (frames : ℕ → ℕ) where
  pub cost_weight : (has : ℕ → ℕ → Bool) (l k : ℕ) → cost has frames l k ≤ weight frames l k
  cost_weight has zero k = at_most (has zero k) (frames k) (frames k) (omega arith)
  cost_weight has (suc l) k =
      at_most
      (has (suc l) k)
      (cost has frames l (2 * k) + cost has frames l (2 * k + 1))
      (weight frames (suc l) k)
      (omega (arith, cost_weight has l (2 * k), cost_weight has l (2 * k + 1)))

  pub cost_later : (has has' : ℕ → ℕ → Bool) (more : (l k : ℕ) → has l k ≡ true → has' l k ≡ true) (l k : ℕ) → cost has' frames l k ≤ cost has frames l k
  cost_later has has' more zero k = none_if (has zero k) (has' zero k) (frames k) (frames k) (more zero k) (omega arith)
  cost_later has has' more (suc l) k =
      none_if
      (has (suc l) k)
      (has' (suc l) k)
      (cost has frames l (2 * k) + cost has frames l (2 * k + 1))
      (cost has' frames l (2 * k) + cost has' frames l (2 * k + 1))
      (more (suc l) k)
      (omega (arith, cost_later has has' more l (2 * k), cost_later has has' more l (2 * k + 1)))

  not_at_hand : (has : ℕ → ℕ → Bool) (l l' k : ℕ) → l ≡ suc l' → has l k ≡ false → cost has frames l k ≡ cost has frames l' (2 * k) + cost has frames l' (2 * k + 1)
  not_at_hand has l l' k same none =
      let P : ℕ → Type 0 = λ m. has m k ≡ false in
      let none' : has (suc l') k ≡ false = subst P same none in
      ap (λ (m : ℕ). cost has frames m k) same ∙ cond-false (has (suc l') k) 0 (cost has frames l' (2 * k) + cost has frames l' (2 * k + 1)) none'

  -- steps of a run, of a first half, and of both halves
  pub ticks_leaf : (has : ℕ → ℕ → Bool) (l k old new : ℕ) → l ≡ 0 → has l k ≡ false → new ≤ old + frames k → new ≤ old + cost has frames l k
  ticks_leaf has l k old new leaf none le =
      let P : ℕ → Type 0 = λ m. has m k ≡ false in
      let none' : has 0 k ≡ false = subst P leaf none in
      let whole : cost has frames l k ≡ frames k = ap (λ (m : ℕ). cost has frames m k) leaf ∙ cond-false (has 0 k) 0 (frames k) none' in
      omega (arith, whole, le)

  pub ticks_left : (has has' : ℕ → ℕ → Bool) (more : (l k : ℕ) → has l k ≡ true → has' l k ≡ true) (l k old new : ℕ) → 0 < l → has l k ≡ false → new ≤ old + cost has' frames (l - 1) (2 * k) → new ≤ old + cost has frames l k
  ticks_left has has' more l k old new some none le =
      let two = not_at_hand has l (l - 1) k (omega arith) none in
      let later = cost_later has has' more (l - 1) (2 * k) in
      omega (arith, two, later, le)

  pub ticks_both : (has has' has'' : ℕ → ℕ → Bool) (more : (l k : ℕ) → has l k ≡ true → has' l k ≡ true) (more' : (l k : ℕ) → has' l k ≡ true → has'' l k ≡ true) (l k old mid new : ℕ) → 0 < l → has l k ≡ false
      → mid ≤ old + cost has' frames (l - 1) (2 * k) → new ≤ mid + cost has'' frames (l - 1) (2 * k + 1) → new ≤ old + cost has frames l k
  ticks_both has has' has'' more more' l k old mid new some none le le' =
      let two = not_at_hand has l (l - 1) k (omega arith) none in
      let later = cost_later has has' more (l - 1) (2 * k) in
      let later' = cost_later has has'' (λ i j h. more' i j (more i j h)) (l - 1) (2 * k + 1) in
      omega (arith, two, later, later', le, le')

  pub room_left : (l k old m : ℕ) → 0 < l → old + weight frames l k ≤ m → old + weight frames (l - 1) (2 * k) ≤ m
  room_left zero k old m some room = absurd (omega arith)
  room_left (suc l) k old m some room = let same : suc l - 1 ≡ l = omega arith in rw same (omega (arith, room))

  pub room_right : (has : ℕ → ℕ → Bool) (l k old new m : ℕ) → 0 < l → old + weight frames l k ≤ m → new ≤ old + cost has frames (l - 1) (2 * k) → new + weight frames (l - 1) (2 * k + 1) ≤ m
  room_right has zero k old new m some room le = absurd (omega arith)
  room_right has (suc l) k old new m some room le =
      let same : suc l - 1 ≡ l = omega arith in
      let at : new ≤ old + cost has frames l (2 * k) = subst (λ (j : ℕ). new ≤ old + cost has frames j (2 * k)) same le in
      rw same (omega (arith, room, at, cost_weight has l (2 * k)))
