-- How many writes to one address stay, and how many demands of one need.
use Rattle.std.proofs.Common.{◌≡◌, ℕ, ◌+◌, ◌≤◌, Bool, true, false, ◌&&◌, ◌||◌, not, List, [], ◌∷◌, ◌++◌, length, refl, ap, subst, sym, ◌∙◌, cond, arith, nat_lt, nat_le, inl, inr}
use Rattle.std.proofs.lemmas.Bool.{le-leb, and_parts, and_from, and_cases, or_parts, or_cases, or_left, or_right, false≢true, true≢false}
use Rattle.jl_rows.specs.declared.row.Table.{Table}
use Rattle.jl_rows.specs.History.{is_table}
use Rattle.jl_sym_laws.specs.RelativeIds.{Id}
use Rattle.jl_sym_laws.specs.Summaries.{Written}
use Rattle.jl_sym_laws.specs.Compacting.{same_id, same_address, is_overwritten, is_hidden, is_unseen, was_filled, kept_writes}
use Rattle.jl_sym_laws.proofs.Sameness.{id_is, table_is}
use Rattle.jl_sym_laws.proofs.Counting.{one, many}

abbrev pub Address : Type 0
Address = Table × Id

abbrev pub goes_at : Address → Written → Bool
goes_at a w = is_table a.0 w.table && same_id a.1 w.id

unfoldable pub any_at : Address → List Written → Bool
any_at a [] = false
any_at a (w ∷ ws) = goes_at a w || any_at a ws

-- some write to the address before the moment
unfoldable pub some_before : Address → ℕ → List Written → Bool
some_before a k [] = false
some_before a k (w ∷ ws) = (goes_at a w && nat_lt w.moment k) || some_before a k ws

unfoldable pub befores : Address → List ℕ → List Written → ℕ
befores a [] ws = 0
befores a (k ∷ ks) ws = one (some_before a k ws) + befores a ks ws

-- moments that don't come after one, and those that rise from one
abbrev pub Until : ℕ → List Written → Type 0
Until n [] = Unit {0}
Until n (w ∷ ws) = (w.moment ≤ n) × Until n ws

abbrev pub Rises : ℕ → List Written → Type 0
Rises n [] = Unit {0}
Rises n (w ∷ ws) = (n ≤ w.moment) × Rises w.moment ws

until_later : (n k : ℕ) (us : List Written) → n ≤ k → Until n us → Until k us
until_later n k [] le h = tt
until_later n k (u ∷ us) le h = let first = h.0 in let within : u.moment ≤ k = omega (arith, first, le) in (within, until_later n k us le h.1)

until_push : (n : ℕ) (us : List Written) (w : Written) → w.moment ≤ n → Until n us → Until n (us ++ (w ∷ []))
until_push n [] w le h = (le, tt)
until_push n (u ∷ us) w le h = (h.0, until_push n us w le h.1)

one_le : (x y : Bool) → one x ≤ one (y || x)
one_le true true = omega arith
one_le true false = omega arith
one_le false true = omega arith
one_le false false = omega arith

module _ (a : Address) where
  -- two writes to the address have the same one
  same_at : (u w : Written) → goes_at a u ≡ true → goes_at a w ≡ true → same_address u w ≡ true
  same_at u w p q =
      let at_u = and_parts (is_table a.0 u.table) (same_id a.1 u.id) p in
      let table = table_is a.0 u.table at_u.0 in
      let ident = id_is a.1 u.id at_u.1 in
      subst (λ (t : Table). (is_table t w.table && same_id u.id w.id) ≡ true) table (subst (λ (i : Id). (is_table a.0 w.table && same_id i w.id) ≡ true) ident q)

  any_push : (us : List Written) (w : Written) → goes_at a w ≡ true → any_at a (us ++ (w ∷ [])) ≡ true
  unfolding any_at
  any_push [] w h = or_left (goes_at a w) false h
  any_push (u ∷ us) w h = or_right (goes_at a u) (any_at a (us ++ (w ∷ []))) (any_push us w h)

  any_stays : (us : List Written) (w : Written) → any_at a us ≡ true → any_at a (us ++ (w ∷ [])) ≡ true
  unfolding any_at
  any_stays [] w h = absurd (false≢true h)
  any_stays (u ∷ us) w h = elim (or_cases (goes_at a u) (any_at a us) h) [
    | inl e ↦ or_left (goes_at a u) (any_at a (us ++ (w ∷ []))) e
    | inr e ↦ or_right (goes_at a u) (any_at a (us ++ (w ∷ []))) (any_stays us w e)
  ]

  first_falls : (x y : Bool) → (x ≡ true → y ≡ true) → one (not y) ≤ one (not x)
  first_falls true y h = rw (h refl) (omega arith)
  first_falls false true h = omega arith
  first_falls false false h = omega arith

  filled_at : (w : Written) (us : List Written) → goes_at a w ≡ true → Until w.moment us → any_at a us ≡ true → was_filled w us ≡ true
  unfolding any_at was_filled
  filled_at w [] h until any = absurd (false≢true any)
  filled_at w (u ∷ us) h until any = elim (or_cases (goes_at a u) (any_at a us) any) [
    | inl e ↦ or_left (same_address u w && nat_le u.moment w.moment) (was_filled w us) (and_from _ _ (same_at u w e h) (le-leb u.moment w.moment until.0))
    | inr e ↦ or_right (same_address u w && nat_le u.moment w.moment) (was_filled w us) (filled_at w us h until.1 e)
  ]

  not_before : (w v : Written) (k : ℕ) (b : Bool) → goes_at a w ≡ true → goes_at a v ≡ b → (same_address w v && nat_lt v.moment k) ≡ false → (b && nat_lt v.moment k) ≡ false
  not_before w v k false h e over = refl
  not_before w v k true h e over = sym (ap (λ (c : Bool). c && nat_lt v.moment k) (same_at w v h e)) ∙ over

  none_before : (w : Written) (k : ℕ) (vs : List Written) → goes_at a w ≡ true → is_overwritten w k vs ≡ false → some_before a k vs ≡ false
  unfolding is_overwritten some_before
  none_before w k [] h over = refl
  none_before w k (v ∷ vs) h over =
      let parts = or_parts (same_address w v && nat_lt v.moment k) (is_overwritten w k vs) over in
      ap (λ (b : Bool). b || some_before a k vs) (not_before w v k (goes_at a v) h refl parts.0) ∙ none_before w k vs h parts.1

  befores_rise : (ks : List ℕ) (w : Written) (ws : List Written) → befores a ks ws ≤ befores a ks (w ∷ ws)
  unfolding befores some_before
  befores_rise [] w ws = omega arith
  befores_rise (k ∷ ks) w ws = let rest = befores_rise ks w ws in let first = one_le (some_before a k ws) (goes_at a w && nat_lt w.moment k) in omega (arith, rest, first)

  early : (x : Bool) → not x ≡ false → x ≡ true
  early true e = refl
  early false e = absurd (true≢false e)

  one_more_by : (w : Written) (ws : List Written) (k : ℕ) → goes_at a w ≡ true → is_hidden w ws k ≡ false → one (some_before a k ws) + 1 ≤ one (some_before a k (w ∷ ws))
  unfolding some_before
  one_more_by w ws k h seen =
      let parts = or_parts (not (nat_lt w.moment k)) (is_overwritten w k ws) seen in
      let none = none_before w k ws h parts.1 in
      let now = or_left (goes_at a w && nat_lt w.moment k) (some_before a k ws) (and_from _ _ h (early (nat_lt w.moment k) parts.0)) in
      let zero_then : one (some_before a k ws) ≡ 0 = ap one none in
      let one_now : one ((goes_at a w && nat_lt w.moment k) || some_before a k ws) ≡ 1 = ap one now in
      omega (arith, zero_then, one_now)

  one_less : (w : Written) (ws : List Written) (k : ℕ) → one (some_before a k ws) ≤ one (some_before a k (w ∷ ws))
  unfolding some_before
  one_less w ws k = one_le (some_before a k ws) (goes_at a w && nat_lt w.moment k)

  one_more : (ks : List ℕ) (w : Written) (ws : List Written) → goes_at a w ≡ true → is_unseen w ws ks ≡ false → befores a ks ws + 1 ≤ befores a ks (w ∷ ws)
  unfolding is_unseen befores
  one_more [] w ws h seen = absurd (true≢false seen)
  one_more (k ∷ ks) w ws h seen = elim (and_cases (is_hidden w ws k) (is_unseen w ws ks) seen) [
    | inl e ↦ let first = one_more_by w ws k h e in let rest = befores_rise ks w ws in omega (arith, first, rest)
    | inr e ↦ let first = one_less w ws k in let rest = one_more ks w ws h e in omega (arith, first, rest)
  ]

  not_any : (x y : Bool) → y ≡ false → (x ≡ true → y ≡ true) → x ≡ false
  not_any true y e h = absurd (true≢false (sym (h refl) ∙ e))
  not_any false y e h = refl

  -- how many writes to the address stay
  abbrev pub Stay : List ℕ → List Written → List Written → List Written → Type 0
  Stay ks us kept ws = many goes_at a kept ≤ one (not (any_at a us)) + befores a ks ws

  kept_here : (ks : List ℕ) (us : List Written) (w : Written) (ws : List Written) (c : Bool) → goes_at a w ≡ c → (was_filled w us && is_unseen w ws ks) ≡ false → Until w.moment us
      → Stay ks (us ++ (w ∷ [])) (kept_writes ks (us ++ (w ∷ [])) ws) ws → one c + many goes_at a (kept_writes ks (us ++ (w ∷ [])) ws) ≤ one (not (any_at a us)) + befores a ks (w ∷ ws)
  kept_here ks us w ws false e kept until h =
      let falls = first_falls (any_at a us) (any_at a (us ++ (w ∷ []))) (any_stays us w) in
      let rise = befores_rise ks w ws in
      omega (arith, h, falls, rise)
  kept_here ks us w ws true e kept until h =
      let none : one (not (any_at a (us ++ (w ∷ [])))) ≡ 0 = ap (λ (b : Bool). one (not b)) (any_push us w e) in
      elim (and_cases (was_filled w us) (is_unseen w ws ks) kept) [
        | inl new ↦
            let first : one (not (any_at a us)) ≡ 1 = ap (λ (b : Bool). one (not b)) (not_any (any_at a us) (was_filled w us) new (filled_at w us e until)) in
            let rise = befores_rise ks w ws in
            omega (arith, h, none, first, rise)
        | inr seen ↦ let more = one_more ks w ws e seen in omega (arith, h, none, more)
      ]

  stay_by : (ks : List ℕ) (us : List Written) (w : Written) (ws : List Written) (b : Bool) → (was_filled w us && is_unseen w ws ks) ≡ b → Until w.moment us
      → Stay ks us (kept_writes ks us ws) ws → Stay ks (us ++ (w ∷ [])) (kept_writes ks (us ++ (w ∷ [])) ws) ws
      → Stay ks us (cond b (kept_writes ks us ws) (w ∷ kept_writes ks (us ++ (w ∷ [])) ws)) (w ∷ ws)
  unfolding many
  stay_by ks us w ws true e until dropped kept = let rise = befores_rise ks w ws in omega (arith, dropped, rise)
  stay_by ks us w ws false e until dropped kept = kept_here ks us w ws (goes_at a w) refl e until kept

  stays : (ks : List ℕ) (n : ℕ) (us ws : List Written) → Until n us → Rises n ws → Stay ks us (kept_writes ks us ws) ws
  unfolding kept_writes many
  stays ks n us [] until rises = omega arith
  stays ks n us (w ∷ ws) until rises =
      let whole : w.moment ≤ w.moment = omega arith in
      let so_far = until_later n w.moment us rises.0 until in
      stay_by ks us w ws (was_filled w us && is_unseen w ws ks) refl so_far (stays ks w.moment us ws so_far rises.1) (stays ks w.moment (us ++ (w ∷ [])) ws (until_push w.moment us w whole so_far) rises.1)

  one_at_most : (b : Bool) → one b ≤ 1
  one_at_most true = omega arith
  one_at_most false = omega arith

  befores_most : (ks : List ℕ) (ws : List Written) → befores a ks ws ≤ length ks
  unfolding befores
  befores_most [] ws = omega arith
  befores_most (k ∷ ks) ws = let first = one_at_most (some_before a k ws) in let rest = befores_most ks ws in omega (arith, first, rest)

  pub writes_at : (ks : List ℕ) (ws : List Written) → Rises 0 ws → length ks ≤ 6 → many goes_at a (kept_writes ks [] ws) ≤ 7
  writes_at ks ws rises six =
      let all = stays ks 0 [] ws tt rises in
      let first = one_at_most (not (any_at a [])) in
      let most = befores_most ks ws in
      omega (arith, all, first, most, six)
