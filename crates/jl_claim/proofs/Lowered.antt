-- The least of all that was lowered, where one view changes.
use Rattle.std.proofs.Common.{◌≡◌, ◌≢◌, ℕ, zero, suc, ◌≤◌, min, List, [], ◌∷◌, ◌++◌, set, All, sum_by, ap, sym, refl, ◌∙◌, arith}
use Rattle.std.proofs.lemmas.List.Sums.{sum_by-cons}
use Rattle.std.proofs.lemmas.List.Elements.{All-head, All-tail}
use Rattle.atomic_table.proofs.Lists.{set_else, set_here}
use mathlib.Core.Option.{some, some-injective, some-ne-none}
use lib.ListN.{get_elem?}
use Rattle.jl_claim.specs.Numbers.{least_of}
use Rattle.jl_claim.specs.Rule.{least_lowered, spent, both_of}
use Rattle.jl_claim.specs.declared.view.View.{View}
use Rattle.jl_claim.proofs.Sums.{within, le_sum_by}
use Rattle.jl_claim.proofs.Counts.{least_of-le, least_of-append}

abbrev pub lowest : ℕ → View → ℕ
lowest bound v = least_of bound v.lowered

pub least_lowered-le : (bound : ℕ) (views : List View) → least_lowered bound views ≤ bound
least_lowered-le bound [] = omega arith
least_lowered-le bound (v ∷ vs) = let rest = least_lowered-le bound vs in omega arith

pub least_lowered-at : (bound : ℕ) (views : List View) (id : ℕ) (v : View) → get_elem? views id ≡ some v → least_lowered bound views ≤ lowest bound v
least_lowered-at bound [] id v at = absurd (some-ne-none v (sym at))
least_lowered-at bound (u ∷ us) zero v at = let same = ap (lowest bound) (some-injective u v at) in omega arith
least_lowered-at bound (u ∷ us) (suc id) v at = let rest = least_lowered-at bound us id v at in omega arith

pub least_lowered-set : (bound : ℕ) (views : List View) (id : ℕ) (v w : View) → get_elem? views id ≡ some v → min (least_lowered bound (set views id w)) (lowest bound v) ≡ min (least_lowered bound views) (lowest bound w)
least_lowered-set bound [] id v w at = absurd (some-ne-none v (sym at))
least_lowered-set bound (u ∷ us) zero v w at = let same = ap (lowest bound) (some-injective u v at) in omega arith
least_lowered-set bound (u ∷ us) (suc id) v w at = let rest = least_lowered-set bound us id v w at in omega arith

-- a view that lowered nothing more
pub least_lowered-same : (bound : ℕ) (views : List View) (id : ℕ) (v w : View) → get_elem? views id ≡ some v → lowest bound w ≡ lowest bound v → least_lowered bound (set views id w) ≡ least_lowered bound views
least_lowered-same bound [] id v w at same = refl
least_lowered-same bound (u ∷ us) zero v w at same = let here = ap (lowest bound) (some-injective u v at) in omega arith
least_lowered-same bound (u ∷ us) (suc id) v w at same = let rest = least_lowered-same bound us id v w at same in omega arith

-- one that lowered a number more
pub least_lowered-more : (bound run : ℕ) (views : List View) (id : ℕ) (v w : View) → get_elem? views id ≡ some v → lowest bound w ≡ min (lowest bound v) run → least_lowered bound (set views id w) ≡ min (least_lowered bound views) run
least_lowered-more bound run [] id v w at more = absurd (some-ne-none v (sym at))
least_lowered-more bound run (u ∷ us) zero v w at more = let here = ap (lowest bound) (some-injective u v at) in omega arith
least_lowered-more bound run (u ∷ us) (suc id) v w at more = let rest = least_lowered-more bound run us id v w at more in omega arith

-- a new one, which lowered nothing
pub least_lowered-new : (bound : ℕ) (views : List View) (v : View) → lowest bound v ≡ bound → least_lowered bound (views ++ v ∷ []) ≡ least_lowered bound views
least_lowered-new bound [] v none = omega arith
least_lowered-new bound (u ∷ us) v none = let rest = least_lowered-new bound us v none in let le = least_lowered-le bound us in omega arith

-- two as one
pub least_lowered-joined : (bound : ℕ) (views : List View) (id other : ℕ) (v w : View) → get_elem? views id ≡ some v → other ≢ id → get_elem? (set views id (both_of v w)) other ≡ some w → least_lowered bound (set (set views id (both_of v w)) other spent) ≡ least_lowered bound views
least_lowered-joined bound views id other v w at apart at_other =
    let both = both_of v w in
    let middle = set views id both in
    let here : get_elem? middle id ≡ some both = set_here views id both (within views id v at) in
    let there : get_elem? (set middle other spent) id ≡ some both = set_else middle other id spent (λ e. apart (sym e)) ∙ here in
    let was : get_elem? views other ≡ some w = sym (set_else views id other both apart) ∙ at_other in
    let first = least_lowered-set bound views id v both at in
    let second = least_lowered-set bound middle other w spent at_other in
    let lowest_both = least_of-append bound v.lowered w.lowered in
    let middle_le = least_lowered-at bound middle id both here in
    let last_le = least_lowered-at bound (set middle other spent) id both there in
    let bound_le = least_lowered-le bound middle in
    let v_le = least_lowered-at bound views id v at in
    let w_le = least_lowered-at bound views other w was in
    omega arith

least_lowered-none : (bound : ℕ) (weight : View → ℕ) (views : List View) → All (λ u. weight u ≡ 0 → lowest bound u ≡ bound) views → sum_by weight views ≡ 0 → least_lowered bound views ≡ bound
least_lowered-none bound weight [] light none = refl
least_lowered-none bound weight (u ∷ us) light none =
    let here = All-head (λ u. weight u ≡ 0 → lowest bound u ≡ bound) u us light (omega (arith, sum_by-cons weight u us)) in
    let rest = least_lowered-none bound weight us (All-tail (λ u. weight u ≡ 0 → lowest bound u ≡ bound) u us light) (omega (arith, sum_by-cons weight u us)) in
    omega arith

-- where one view has all the weight, and the others lowered nothing, the least is the least that it lowered
pub least_lowered-alone : (bound : ℕ) (weight : View → ℕ) (views : List View) (id : ℕ) (v : View) → All (λ u. weight u ≡ 0 → lowest bound u ≡ bound) views → get_elem? views id ≡ some v → sum_by weight views ≡ weight v
    → least_lowered bound views ≡ lowest bound v
least_lowered-alone bound weight [] id v light at alone = absurd (some-ne-none v (sym at))
least_lowered-alone bound weight (u ∷ us) zero v light at alone =
    let same = some-injective u v at in
    let rest = least_lowered-none bound weight us (All-tail (λ u. weight u ≡ 0 → lowest bound u ≡ bound) u us light) (omega (arith, sum_by-cons weight u us, ap weight same)) in
    let le = least_of-le bound v.lowered in
    omega (arith, ap (lowest bound) same)
least_lowered-alone bound weight (u ∷ us) (suc id) v light at alone =
    let more = le_sum_by weight us id v at in
    let none = All-head (λ u. weight u ≡ 0 → lowest bound u ≡ bound) u us light (omega (arith, sum_by-cons weight u us)) in
    let rest = least_lowered-alone bound weight us id v (All-tail (λ u. weight u ≡ 0 → lowest bound u ≡ bound) u us light) at (omega (arith, sum_by-cons weight u us)) in
    let le = least_of-le bound v.lowered in
    omega arith
