-- What each call asks of the table: its step keeps the rule, whatever the table is by then.
use Rattle.std.proofs.Common.{◌≡◌, ℕ, ◌+◌, ◌%◌, ◌^◌, ◌<◌, ◌≤◌, min, List, [], ◌∷◌, slice_index, slice_set, All, Contains, ap, sym, subst, refl, ◌∙◌, mod-eq_of_lt, arith}
use Rattle.std.proofs.lemmas.List.Elements.{All-weaker}
use Rattle.atomic_table.specs.Table.{Me, step, keeps, Allows, Splits, Joins, Final, Seen}
use mathlib.Core.Option.{some, none, some-injective}
use lib.ListN.{get_elem?}
use Rattle.jl_claim.specs.Numbers.{times, once_below, least_of}
use Rattle.jl_claim.specs.Rule.{Rule, Holds, Claims, Sees, Lowers, with_drawn, with_seen, with_lowered, spent, new_view, left_of, both_of}
use Rattle.jl_claim.specs.declared.view.View.{View}
use Rattle.jl_claim.proofs.Kept.{sits, drawn_below, near, low_le, lowered_above, alone_drew, alone_lowered, claim_keeps, least_keeps, lower_keeps, split_keeps, join_keeps}

module _ {S : Type 0} (bound slots id : ℕ) (me : Me S View) (seated : 1 ≤ me.0.seats) where
  pub claim_allows : bound ≤ 2 ^ 40 → All (λ x. x < me.0.bound) me.0.drawn → Allows (Holds bound) slots id me 0 (λ n. (n + 1) % 2 ^ 64) (Claims (step slots 0 1 0 none) me)
  claim_allows small below s kept len at fits =
      let n = slice_index s.words 0 in
      let found : n ≡ kept.0 = ap (λ ws. slice_index ws 0) kept.2 in
      let rule : Rule bound n kept.1 s.views = subst (λ m. Rule bound m kept.1 s.views) (sym found) kept.3 in
      let sit = sits bound n kept.1 s.views rule id me.0 at seated in
      let same = sit.same_bound in
      let below_bound : All (λ x. x < bound) me.0.drawn = All-weaker (λ x. x < me.0.bound) (λ x. x < bound) (λ x h. omega arith) me.0.drawn below in
      let room = near bound n kept.1 s.views rule in
      let more : (n + 1) % 2 ^ 64 ≡ n + 1 = mod-eq_of_lt (omega arith) in
      let after : slice_set s.words 0 ((n + 1) % 2 ^ 64) ≡ (n + 1) ∷ kept.1 ∷ [] = ap (λ ws. slice_set ws 0 ((n + 1) % 2 ^ 64)) kept.2 ∙ ap (λ m. m ∷ kept.1 ∷ []) more in
      (with_drawn me.0 n, keeps, tt, (n + 1, kept.1, after, claim_keeps bound n kept.1 s.views rule id me.0 at seated below_bound), (refl, drawn_below bound n kept.1 s.views rule id me.0 at))

  pub least_allows : Allows (Holds bound) slots id me 1 (λ n. n) (Sees (step slots 1 0 0 none) me)
  least_allows s kept len at fits =
      let n = slice_index s.words 1 in
      let found : n ≡ kept.1 = ap (λ ws. slice_index ws 1) kept.2 in
      let rule : Rule bound kept.0 n s.views = subst (λ m. Rule bound kept.0 m s.views) (sym found) kept.3 in
      let sit = sits bound kept.0 n s.views rule id me.0 at seated in
      let same = sit.same_bound in
      let seen = sit.seen in
      let le = low_le bound kept.0 n s.views rule in
      let after : slice_set s.words 1 n ≡ kept.0 ∷ n ∷ [] = ap (λ ws. slice_set ws 1 n) kept.2 in
      (with_seen me.0 n, keeps, tt, (kept.0, n, after, least_keeps bound kept.0 n s.views rule id me.0 at seated), (refl, omega arith, seen, lowered_above bound kept.0 n s.views rule id me.0 at))

  pub lower_allows : (run : ℕ) → run < me.0.bound → Contains me.0.drawn run → Allows (Holds bound) slots id me 1 (λ n. min n run) (Lowers (step slots 1 run 0 none) me)
  lower_allows run below drew s kept len at fits =
      let n = slice_index s.words 1 in
      let found : n ≡ kept.1 = ap (λ ws. slice_index ws 1) kept.2 in
      let rule : Rule bound kept.0 n s.views = subst (λ m. Rule bound kept.0 m s.views) (sym found) kept.3 in
      let sit = sits bound kept.0 n s.views rule id me.0 at seated in
      let same = sit.same_bound in
      let after : slice_set s.words 1 (min n run) ≡ kept.0 ∷ min n run ∷ [] = ap (λ ws. slice_set ws 1 (min n run)) kept.2 in
      (with_lowered me.0 run, keeps, tt, (kept.0, min n run, after, lower_keeps bound kept.0 n s.views rule id run me.0 at seated (omega arith) drew), refl)

module _ {S : Type 0} (bound id : ℕ) (v : View) (seated : 1 ≤ v.seats) where
  pub split_allows : 0 < v.room → Splits {S = S} (Holds bound) id v (left_of v) (new_view v.bound 0)
  split_allows room s kept at = (kept.0, kept.1, kept.2, split_keeps bound kept.0 kept.1 s.views kept.3 id v at seated room)

  pub join_allows : (other : ℕ) (w : View) → 1 ≤ w.seats → Joins {S = S} (Holds bound) id v other w (both_of v w) spent
  join_allows other w seated_other s kept at apart at_other = (kept.0, kept.1, kept.2, join_keeps bound kept.0 kept.1 s.views kept.3 id other v w at apart at_other seated seated_other)

-- What the table leaves at the end, where one seat has all the room.
module _ {S : Type 0} (bound id : ℕ) (v : View) (seated : 1 ≤ v.seats) (alone : v.seats + v.room ≡ 64) (ws : List ℕ) (xs : List S) (final : Final (Seen (Holds bound) id v) ws xs) (next low : ℕ)
    (at_next : get_elem? ws 0 ≡ some next) (at_low : get_elem? ws 1 ≡ some low) where
  last : Rule bound next low final.0.views
  last =
      let kept = final.1.0 in
      let words : ws ≡ kept.0 ∷ kept.1 ∷ [] = sym final.2 ∙ kept.2 in
      let same_next : kept.0 ≡ next = some-injective kept.0 next (subst (λ us. get_elem? us 0 ≡ some next) words at_next) in
      let same_low : kept.1 ≡ low = some-injective kept.1 low (subst (λ us. get_elem? us 1 ≡ some low) words at_low) in
      subst (λ n. Rule bound n low final.0.views) same_next (subst (λ n. Rule bound kept.0 n final.0.views) same_low kept.3)

  pub end_drew : (x : ℕ) → times x v.drawn ≡ once_below x next
  end_drew = alone_drew bound next low final.0.views last id v final.1.1 alone

  pub end_lowered : low ≡ least_of v.bound v.lowered
  end_lowered =
      let sit = sits bound next low final.0.views last id v final.1.1 seated in
      alone_lowered bound next low final.0.views last id v final.1.1 alone ∙ ap (λ b. least_of b v.lowered) (sym sit.same_bound)

  pub end_seen : low ≤ v.seen
  end_seen = let sit = sits bound next low final.0.views last id v final.1.1 seated in sit.seen
