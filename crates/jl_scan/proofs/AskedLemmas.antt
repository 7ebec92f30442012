-- What is summarised when runs are asked for, once and again.
use Rattle.std.proofs.Common.{◌≡◌, ℕ, zero, suc, ◌+◌, ◌-◌, ◌*◌, ◌/◌, ◌<◌, ◌≤◌, if◌then◌else◌, Bool, true, false, [], ◌∷◌, refl, ap, sym, subst, ◌∙◌, ⊎_elim, arith}
use Rattle.std.proofs.lemmas.Bool.{cases_lt}
use Rattle.std.proofs.lemmas.List.Elements.{All-head, All-tail}
use Rattle.jl_scan.specs.Blocks.{edge, end_of}
use Rattle.jl_scan.specs.Walk.{block_at, walk}
use Rattle.jl_scan.specs.Costs.{through, cost, cost_of}
use Rattle.jl_scan.specs.Laws.{IsSpared, CountAlike, CostSpares, CostIsWithin, CostsAreWithin}
use Rattle.jl_scan.proofs.BlockLemmas.{edge_double, edge_end, edge_rises, edge_mono, block_is, after, walk_on, walk_done}
use Rattle.jl_scan.proofs.CostLemmas.{weight_through, cost_weight}

walk_costs : (has : ℕ → ℕ → Bool) (frames : ℕ → ℕ) (room a b : ℕ) → a ≤ b → b ≤ room + a → cost_of has frames (walk a b) + through frames a ≤ through frames b
walk_costs has frames zero a b le more =
    let past : b ≤ a = omega (arith, more) in
    let none : cost_of has frames (walk a b) ≡ 0 = ap (cost_of has frames) (walk_done a b past) in
    let same : through frames a ≡ through frames b = ap (through frames) (omega arith) in
    omega (arith, none, same)
walk_costs has frames (suc room) a b le more =
    ⊎_elim
    (λ less.
    let is = block_is b a b less in
    let on = after a b less in
    let within = is.within in
    let at = block_at a b in
    let rest = walk_costs has frames room (end_of at) b within (omega (arith, on, more)) in
    let first : cost_of has frames (walk a b) ≡ cost has frames at.level at.k + cost_of has frames (walk (end_of at) b) = ap (cost_of has frames) (walk_on a b less) in
    let begins : through frames (edge at.level at.k) ≡ through frames a = ap (through frames) is.begins in
    omega (arith, rest, first, begins, cost_weight frames has at.level at.k, weight_through frames at.level at.k))
    (λ done.
    let none : cost_of has frames (walk a b) ≡ 0 = ap (cost_of has frames) (walk_done a b done) in
    let same : through frames a ≡ through frames b = ap (through frames) (omega arith) in
    omega (arith, none, same))
    (cases_lt a b)

pub cost_is_within : CostIsWithin
cost_is_within has frames a b le = walk_costs has frames b a b le (omega arith)

through_up : (frames : ℕ → ℕ) (a n : ℕ) → through frames a ≤ through frames (n + a)
through_up frames a zero = let same : 0 + a ≡ a = omega arith in rw same (omega arith)
through_up frames a (suc n) = let same : suc n + a ≡ suc (n + a) = omega arith in rw same (omega (arith, through_up frames a n))

through_later : (frames : ℕ → ℕ) (a b : ℕ) → a ≤ b → through frames a ≤ through frames b
through_later frames a b le = let same : b - a + a ≡ b = omega arith in subst (λ (m : ℕ). through frames a ≤ through frames m) same (through_up frames a (b - a))

pub costs_are_within : CostsAreWithin
costs_are_within frames a b [] order = omega (arith, through_later frames a b order)
costs_are_within frames a b (c ∷ cs) order =
    let here = cost_is_within c.has frames c.first c.end order.1 in
    let rest = costs_are_within frames c.end b cs order.2 in
    omega (arith, here, rest, through_later frames a c.first order.0)

-- an aligned block that shares a run with one at least as long lies inside of it
nested : (l m k j r : ℕ) → l ≤ m → edge l k ≤ r → r < edge l (k + 1) → edge m j ≤ r → r < edge m (j + 1) → (edge m j ≤ edge l k) × (edge l (k + 1) ≤ edge m (j + 1))
nested zero m k j r le at before begin end = (omega arith, omega arith)
nested (suc l) zero k j r le at before begin end = absurd (omega arith)
nested (suc l) (suc m) k j r le at before begin end =
    let e1 = edge_double l k in
    let e2 = edge_double l (k + 1) in
    let e3 = edge_double m j in
    let e4 = edge_double m (j + 1) in
    let half = nested l m k j (r / 2) (omega arith) (omega (arith, e1, at)) (omega (arith, e2, before)) (omega (arith, e3, begin)) (omega (arith, e4, end)) in
    let low = half.0 in
    let high = half.1 in
    (omega (arith, e1, e3, low), omega (arith, e2, e4, high))

-- a block as long as another that lies inside of it is that one
long : (l k : ℕ) → edge l k + l < edge l (k + 1)
long zero k = omega arith
long (suc l) k = omega (arith, long l k, edge_double l k, edge_double l (k + 1))

-- a block is longer than one of a lower level
longer : (l m k j : ℕ) → l < m → edge l (k + 1) + edge m j < edge m (j + 1) + edge l k
longer l zero k j less = absurd (omega arith)
longer zero (suc m) k j less = omega (arith, long m j, edge_double m j, edge_double m (j + 1))
longer (suc l) (suc m) k j less = omega (arith, longer l m k j (omega arith), edge_double l k, edge_double l (k + 1), edge_double m j, edge_double m (j + 1))

number_same : (l j k : ℕ) → edge l k ≤ edge l j → edge l (j + 1) ≤ edge l (k + 1) → j ≡ k
number_same l j k begin end =
    ⊎_elim
    (λ less. let up = edge_rises l j in let on = edge_mono l (j + 1) k (omega arith) in absurd (omega (arith, up, on, begin)))
    (λ more.
    ⊎_elim
    (λ less. let up = edge_rises l (k + 1) in let on = edge_mono l (k + 1 + 1) (j + 1) (omega arith) in absurd (omega (arith, up, on, end)))
    (λ most. omega (arith, more, most))
    (cases_lt k j))
    (cases_lt j k)

-- a block at hand inside of one that isn't is of a lower level
not_it : (has : ℕ → ℕ → Bool) (m k l j : ℕ) → l ≡ m → has m k ≡ false → has l j ≡ true → edge m k ≤ edge l j → edge l (j + 1) ≤ edge m (k + 1) → ⊥
not_it has m k l j same none there begin end =
    let begin' : edge m k ≤ edge m j = subst (λ (x : ℕ). edge m k ≤ edge x j) same begin in
    let end' : edge m (j + 1) ≤ edge m (k + 1) = subst (λ (x : ℕ). edge x (j + 1) ≤ edge m (k + 1)) same end in
    let there' : has m j ≡ true = subst (λ (x : ℕ). has x j ≡ true) same there in
    let it : has m k ≡ true = subst (λ (x : ℕ). has m x ≡ true) (number_same m j k begin' end') there' in
    absurd (let e : false ≡ true = sym none ∙ it in cc)

below : (has : ℕ → ℕ → Bool) (m k l j : ℕ) → has m k ≡ false → has l j ≡ true → edge m k ≤ edge l j → edge l (j + 1) ≤ edge m (k + 1) → l < m
below has m k l j none there begin end =
    ⊎_elim
    (λ less. less)
    (λ more.
    ⊎_elim
    (λ most. let gap = longer m l k j most in absurd (omega (arith, gap, begin, end)))
    (λ same. absurd (not_it has m k l j (omega (arith, more, same)) none there begin end))
    (cases_lt m l))
    (cases_lt l m)

either : (a : Bool) (x y : ℕ) → (a ≡ false → x ≡ y) → (if a then 0 else x) ≡ (if a then 0 else y)
either true x y go = refl
either false x y go = go refl

module _ (has : ℕ → ℕ → Bool) where
  -- what is spared in a block that isn't at hand itself is spared in the half in which it lies
  spared_half : (l k j r : ℕ) → has (suc l) k ≡ false → edge l j ≤ r → r < edge l (j + 1) → IsSpared has (record { level = suc l; k = k }) r → IsSpared has (record { level = l; k = j }) r
  spared_half l k j r none begin end spared =
      let low = below has (suc l) k spared.level spared.k none spared.at_hand spared.inside.0 spared.inside.1 in
      let in_half = nested spared.level l spared.k j r (omega (arith, low)) spared.holds.0 spared.holds.1 begin end in
      record { level = spared.level; k = spared.k; at_hand = spared.at_hand; inside = in_half; holds = spared.holds }

  module _ (frames frames' : ℕ → ℕ) where
    cost_alike : (l k : ℕ) → CountAlike has frames frames' (record { level = l; k = k }) → cost has frames l k ≡ cost has frames' l k
    cost_alike zero k alike =
        either
        (has zero k)
        (frames k)
        (frames' k)
        (λ none. alike k (omega arith) (omega arith) (λ s. let low = below has 0 k s.level s.k none s.at_hand s.inside.0 s.inside.1 in absurd (omega (arith, low))))
    cost_alike (suc l) k alike =
        either
        (has (suc l) k)
        (cost has frames l (2 * k) + cost has frames l (2 * k + 1))
        (cost has frames' l (2 * k) + cost has frames' l (2 * k + 1))
        (λ none.
        let mid = edge_mono l (2 * k + 1) (2 * (k + 1)) (omega arith) in
        let mid' = edge_mono l (2 * k) (2 * k + 1) (omega arith) in
        let last = edge_end l k in
        let left = cost_alike l (2 * k) (λ r begin end free. alike r begin (omega (arith, end, mid)) (λ s. free (spared_half l k (2 * k) r none begin end s))) in
        let right = cost_alike l (2 * k + 1) (λ r begin end free. alike r (omega (arith, begin, mid')) (omega (arith, end, last)) (λ s. free (spared_half l k (2 * k + 1) r none begin end s))) in
        omega (arith, left, right))

pub cost_spares : CostSpares
cost_spares has frames frames' [] alike = refl
cost_spares has frames frames' (b ∷ bs) alike =
    let here = cost_alike has frames frames' b.level b.k (All-head (CountAlike has frames frames') b bs alike) in
    let rest = cost_spares has frames frames' bs (All-tail (CountAlike has frames frames') b bs alike) in
    omega (arith, here, rest)
