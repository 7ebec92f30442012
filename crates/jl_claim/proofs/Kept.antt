-- Each step of a board keeps its rule.
use Rattle.std.proofs.Common.{◌≡◌, ◌≢◌, ℕ, ◌+◌, ◌<◌, ◌≤◌, min, List, [], ◌∷◌, ◌++◌, set, All, Contains, ap, sym, subst, refl, ◌∙◌, inl, inr, ⊎_elim, arith}
use Rattle.std.proofs.lemmas.List.Sums.{sum_by_push}
use Rattle.std.proofs.lemmas.List.Elements.{All-nil, All-set, All-push, All-append, All-weaker, Contains-append_left, Contains-append_right}
use Rattle.atomic_table.proofs.Lists.{set_else}
use mathlib.Core.Option.{some}
use lib.ListN.{get_elem?}
use Rattle.jl_claim.specs.Numbers.{times, once_below, least_of}
use Rattle.jl_claim.specs.Rule.{Rule, Sits, Stands, with_drawn, with_seen, with_lowered, count_above, spent, new_view, left_of, both_of}
use Rattle.jl_claim.specs.declared.view.View.{View}
use Rattle.jl_claim.proofs.Sums.{all_at, le_sum_by, sum_by_set, sum_by_alone}
use Rattle.jl_claim.proofs.Counts.{times_push, times_append, once_below_more, all_below, count_above_none, count_above_push, count_above_append, next_is_near, least_of-append, least_of-each}
use Rattle.jl_claim.proofs.Lowered.{least_lowered-le, least_lowered-at, least_lowered-same, least_lowered-more, least_lowered-new, least_lowered-joined, least_lowered-alone}

module _ (bound next low : ℕ) (views : List View) (rule : Rule bound next low views) where
  -- a view with a seat in it is no spent one
  pub sits : (id : ℕ) (v : View) → get_elem? views id ≡ some v → 1 ≤ v.seats → Sits bound low v
  sits id v at seated = ⊎_elim (λ s. s) (λ e. let none = ap (λ (u : View). u.seats) e in absurd (omega arith)) (all_at (Stands bound low) views id v rule.each at)

  -- all that a seat drew is below the first word
  pub drawn_below : (id : ℕ) (v : View) → get_elem? views id ≡ some v → All (λ x. x < next) v.drawn
  drawn_below id v at = all_below v.drawn next (λ x. let le = le_sum_by (λ (u : View). times x u.drawn) views id v at in let is = rule.drawn x in omega arith)

  few : All (λ v. count_above bound v.drawn ≤ v.seats + v.room) views
  few = All-weaker (Stands bound low) (λ (v : View). count_above bound v.drawn ≤ v.seats + v.room) (λ v. ⊎_elim (λ s. let le = s.above in omega arith) (λ e. subst (λ (u : View). count_above bound u.drawn ≤ u.seats + u.room) (sym e) (omega arith))) views rule.each

  -- so the first word is at most as far above the bound as there may be seats
  pub near : next ≤ bound + 64
  near = next_is_near bound next 64 views rule.drawn few rule.seats

  pub low_le : low ≤ bound
  low_le = let le = least_lowered-le bound views in let is = rule.least in omega arith

  -- what a seat lowered is no less than the second word
  pub lowered_above : (id : ℕ) (v : View) → get_elem? views id ≡ some v → All (λ x. low ≤ x) v.lowered
  lowered_above id v at =
      let le = least_lowered-at bound views id v at in
      let is = rule.least in
      All-weaker (λ (x : ℕ). least_of bound v.lowered ≤ x) (λ (x : ℕ). low ≤ x) (λ x h. omega arith) v.lowered (least_of-each bound v.lowered)

  pub claim_keeps : (id : ℕ) (v : View) → get_elem? views id ≡ some v → 1 ≤ v.seats → All (λ x. x < bound) v.drawn → Rule bound (next + 1) low (set views id (with_drawn v next))
  claim_keeps id v at seated below =
      let sit = sits id v at seated in
      let w = with_drawn v next in
      let stands : Sits bound low w = record {
        lowered = All-weaker (λ x. (x < bound) × Contains v.drawn x) (λ x. (x < bound) × Contains w.drawn x) (λ x h. (h.0, Contains-append_left v.drawn (next ∷ []) x h.1)) v.lowered sit.lowered;
        above = omega (arith, count_above_push bound next v.drawn, count_above_none bound v.drawn below);
        seated = seated;
        seen = sit.seen;
        same_bound = sit.same_bound;
      } in record {
        drawn = λ x.
            let change = sum_by_set (λ (u : View). times x u.drawn) views id v w at in
            let before = rule.drawn x in
            omega (arith, times_push x next v.drawn, once_below_more x next);
        least = rule.least ∙ sym (least_lowered-same bound views id v w at refl);
        each = All-set (Stands bound low) views id w (inl stands) rule.each;
        seats = let change = sum_by_set (λ (u : View). u.seats + u.room) views id v w at in let before = rule.seats in omega arith;
      }

  pub least_keeps : (id : ℕ) (v : View) → get_elem? views id ≡ some v → 1 ≤ v.seats → Rule bound next low (set views id (with_seen v low))
  least_keeps id v at seated =
      let sit = sits id v at seated in
      let w = with_seen v low in
      let stands : Sits bound low w = record { lowered = sit.lowered; above = sit.above; seated = seated; seen = omega arith; same_bound = sit.same_bound } in record {
        drawn = λ x. let change = sum_by_set (λ (u : View). times x u.drawn) views id v w at in let before = rule.drawn x in omega arith;
        least = rule.least ∙ sym (least_lowered-same bound views id v w at refl);
        each = All-set (Stands bound low) views id w (inl stands) rule.each;
        seats = let change = sum_by_set (λ (u : View). u.seats + u.room) views id v w at in let before = rule.seats in omega arith;
      }

  lower_stands : (lower : ℕ) (v : View) → lower ≤ low → Stands bound low v → Stands bound lower v
  lower_stands lower v le = ⊎_elim (λ s. let seen = s.seen in inl (record { lowered = s.lowered; above = s.above; seated = s.seated; seen = omega arith; same_bound = s.same_bound })) (λ e. inr e)

  pub lower_keeps : (id run : ℕ) (v : View) → get_elem? views id ≡ some v → 1 ≤ v.seats → run < bound → Contains v.drawn run → Rule bound next (min low run) (set views id (with_lowered v run))
  lower_keeps id run v at seated below drew =
      let sit = sits id v at seated in
      let w = with_lowered v run in
      let more : least_of bound w.lowered ≡ min (least_of bound v.lowered) run = least_of-append bound v.lowered (run ∷ []) ∙ (omega arith) in
      let stands : Sits bound (min low run) w = record {
        lowered = All-push (λ x. (x < bound) × Contains v.drawn x) v.lowered run sit.lowered (below, drew);
        above = sit.above;
        seated = seated;
        seen = let seen = sit.seen in omega arith;
        same_bound = sit.same_bound;
      } in record {
        drawn = λ x. let change = sum_by_set (λ (u : View). times x u.drawn) views id v w at in let before = rule.drawn x in omega arith;
        least = let is = rule.least in let new = least_lowered-more bound run views id v w at more in omega arith;
        each = All-set (Stands bound (min low run)) views id w (inl stands) (All-weaker (Stands bound low) (Stands bound (min low run)) (λ u. lower_stands (min low run) u (omega arith)) views rule.each);
        seats = let change = sum_by_set (λ (u : View). u.seats + u.room) views id v w at in let before = rule.seats in omega arith;
      }

  pub split_keeps : (id : ℕ) (v : View) → get_elem? views id ≡ some v → 1 ≤ v.seats → 0 < v.room → Rule bound next low (set views id (left_of v) ++ new_view v.bound 0 ∷ [])
  split_keeps id v at seated room =
      let sit = sits id v at seated in
      let w = left_of v in
      let new = new_view v.bound 0 in
      let stands : Sits bound low w = record { lowered = sit.lowered; above = sit.above; seated = seated; seen = sit.seen; same_bound = sit.same_bound } in
      let new_stands : Sits bound low new = record {
        lowered = All-nil (λ x. (x < bound) × Contains new.drawn x);
        above = omega arith;
        seated = omega arith;
        seen = let is = sit.same_bound in let le = low_le in omega arith;
        same_bound = sit.same_bound;
      } in record {
        drawn = λ x.
            let change = sum_by_set (λ (u : View). times x u.drawn) views id v w at in
            let before = rule.drawn x in
            omega (arith, sum_by_push (λ (u : View). times x u.drawn) (set views id w) new);
        least = rule.least ∙ sym (least_lowered-new bound (set views id w) new refl ∙ least_lowered-same bound views id v w at refl);
        each = All-push (Stands bound low) (set views id w) new (All-set (Stands bound low) views id w (inl stands) rule.each) (inl new_stands);
        seats = let change = sum_by_set (λ (u : View). u.seats + u.room) views id v w at in let before = rule.seats in omega (arith, sum_by_push (λ (u : View). u.seats + u.room) (set views id w) new);
      }

  pub join_keeps : (id other : ℕ) (v w : View) → get_elem? views id ≡ some v → other ≢ id → get_elem? (set views id (both_of v w)) other ≡ some w → 1 ≤ v.seats → 1 ≤ w.seats
      → Rule bound next low (set (set views id (both_of v w)) other spent)
  join_keeps id other v w at apart at_other seated seated_other =
      let both = both_of v w in
      let middle = set views id both in
      let was : get_elem? views other ≡ some w = sym (set_else views id other both apart) ∙ at_other in
      let one = sits id v at seated in
      let two = sits other w was seated_other in
      let stands : Sits bound low both = record {
        lowered = All-append (λ x. (x < bound) × Contains both.drawn x) v.lowered w.lowered
            (All-weaker (λ x. (x < bound) × Contains v.drawn x) (λ x. (x < bound) × Contains both.drawn x) (λ x h. (h.0, Contains-append_left v.drawn w.drawn x h.1)) v.lowered one.lowered)
            (All-weaker (λ x. (x < bound) × Contains w.drawn x) (λ x. (x < bound) × Contains both.drawn x) (λ x h. (h.0, Contains-append_right v.drawn w.drawn x h.1)) w.lowered two.lowered);
        above = let a = one.above in let b = two.above in omega (arith, count_above_append bound v.drawn w.drawn);
        seated = omega arith;
        seen = let a = one.seen in let b = two.seen in omega arith;
        same_bound = one.same_bound;
      } in record {
        drawn = λ x.
            let first = sum_by_set (λ (u : View). times x u.drawn) views id v both at in
            let second = sum_by_set (λ (u : View). times x u.drawn) middle other w spent at_other in
            let before = rule.drawn x in
            omega (arith, times_append x v.drawn w.drawn);
        least = rule.least ∙ sym (least_lowered-joined bound views id other v w at apart at_other);
        each = All-set (Stands bound low) middle other spent (inr refl) (All-set (Stands bound low) views id both (inl stands) rule.each);
        seats =
            let first = sum_by_set (λ (u : View). u.seats + u.room) views id v both at in
            let second = sum_by_set (λ (u : View). u.seats + u.room) middle other w spent at_other in
            let before = rule.seats in
            omega arith;
      }

  -- where one seat has all the room, the others are spent
  others : (P : View → Type 0) → P spent → All (λ u. u.seats + u.room ≡ 0 → P u) views
  others P idle = All-weaker (Stands bound low) (λ (u : View). u.seats + u.room ≡ 0 → P u) (λ u. ⊎_elim (λ s none. let one = s.seated in absurd (omega arith)) (λ e none. subst P (sym e) idle)) views rule.each

  pub alone_drew : (id : ℕ) (v : View) → get_elem? views id ≡ some v → v.seats + v.room ≡ 64 → (x : ℕ) → times x v.drawn ≡ once_below x next
  alone_drew id v at alone x =
      sym (sum_by_alone (λ (u : View). times x u.drawn) (λ (u : View). u.seats + u.room) views id v (others (λ (u : View). times x u.drawn ≡ 0) refl) at (rule.seats ∙ sym alone)) ∙ rule.drawn x

  pub alone_lowered : (id : ℕ) (v : View) → get_elem? views id ≡ some v → v.seats + v.room ≡ 64 → low ≡ least_of bound v.lowered
  alone_lowered id v at alone =
      rule.least ∙ least_lowered-alone bound (λ (u : View). u.seats + u.room) views id v (others (λ (u : View). least_of bound u.lowered ≡ bound) refl) at (rule.seats ∙ sym alone)
