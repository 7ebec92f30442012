-- The pass over the demands: the marks tell what was asked.
use Rattle.std.proofs.Common.{◌≡◌, ℕ, ◌<◌, ◌≤◌, Bool, true, false, ◌&&◌, ◌||◌, List, [], ◌∷◌, ◌++◌, length, refl, ap, sym, subst, ◌∙◌, cond, arith, nat_le, set, get_or, get_or-set_same, get_or-set_other}
use Rattle.std.proofs.lemmas.Bool.{le-leb}
use Rattle.std.proofs.lemmas.List.{length-set, append-nil}
use Rattle.jl_sym_laws.specs.Summaries.{Demand}
use Rattle.jl_sym_laws.specs.Compacting.{same_need, was_asked, kept_demands}
use Rattle.jl_sym.specs.declared.demand.Demand as code
use Rattle.jl_sym.specs.Seen.{need_seen, demand_seen, demands_seen}
use Rattle.jl_compact.specs.Marks.{need_number, AreAskable}
use Rattle.jl_compact.proofs.Needs.{number_of, other_number, one_number}
use Rattle.jl_compact.proofs.Lists.{one_by_one, demands_push}

pub record Filled (room floor : ℕ) (us : List Demand) (filled : List Bool) : Type 0 where
  pub size : length filled ≡ room
  pub told : (w : Demand) → number_of w < room → floor ≤ w.moment → was_asked w us ≡ get_or filled (number_of w) false

pub filled_none : (room : ℕ) (filled : List Bool) → length filled ≡ room → ((c : ℕ) → c < room → get_or filled c false ≡ false) → Filled room 0 [] filled
unfolding was_asked
filled_none room filled size all = record { size = size; told = λ w in_w le. sym (all (number_of w) in_w) }

-- a moment on
pub filled_later : (room floor n : ℕ) (us : List Demand) (filled : List Bool) → floor ≤ n → Filled room floor us filled → Filled room n us filled
filled_later room floor n us filled le p = record { size = p.size; told = λ w in_w h. (let far : floor ≤ w.moment = omega (arith, le, h) in p.told w in_w far) }

or_same : (a b c : Bool) → (a || (b || c)) ≡ (b || (a || c))
or_same true true c = refl
or_same true false c = refl
or_same false b c = refl

-- one more demand at the end
filled_push : (w u : Demand) (us : List Demand) → was_asked w (us ++ (u ∷ [])) ≡ ((same_need u.need w.need && nat_le u.moment w.moment) || was_asked w us)
unfolding was_asked
filled_push w u [] = refl
filled_push w u (v ∷ us) =
    ap (λ (b : Bool). (same_need v.need w.need && nat_le v.moment w.moment) || b) (filled_push w u us)
    ∙ or_same (same_need v.need w.need && nat_le v.moment w.moment) (same_need u.need w.need && nat_le u.moment w.moment) (was_asked w us)

told_by : (room floor : ℕ) (u : Demand) (us : List Demand) (filled : List Bool) (w : Demand) (b : Bool) → same_need u.need w.need ≡ b → Filled room floor us filled → floor ≤ u.moment → number_of u < room → number_of w < room → u.moment ≤ w.moment
    → ((b && nat_le u.moment w.moment) || was_asked w us) ≡ get_or (set filled (number_of u) true) (number_of w) false
told_by room floor u us filled w true e p from in_u in_w le =
    let size = p.size in
    let within : number_of u < length filled = omega (arith, size, in_u) in
    ap (λ (b : Bool). b || was_asked w us) (le-leb u.moment w.moment le)
    ∙ sym (ap (λ (c : ℕ). get_or (set filled (number_of u) true) c false) (sym (one_number u w e)) ∙ get_or-set_same filled (number_of u) true false within)
told_by room floor u us filled w false e p from in_u in_w le =
    let far : floor ≤ w.moment = omega (arith, from, le) in
    p.told w in_w far ∙ sym (get_or-set_other filled (number_of u) (number_of w) true false (λ same. other_number u w e (sym same)))

pub filled_on : (room floor : ℕ) (u : Demand) (us : List Demand) (filled : List Bool) → Filled room floor us filled → floor ≤ u.moment → number_of u < room → Filled room u.moment (us ++ (u ∷ [])) (set filled (number_of u) true)
filled_on room floor u us filled p from in_u = record {
  size = length-set filled (number_of u) true ∙ p.size;
  told = λ w in_w le. filled_push w u us ∙ told_by room floor u us filled w (same_need u.need w.need) refl p from in_u in_w le;
}

-- how far the pass has come
pub record Front (room : ℕ) (all us rest : List Demand) (filled : List Bool) : Type 0 where
  pub floor : ℕ
  pub marks : Filled room floor us filled
  pub room_left : AreAskable room floor rest
  pub kept : kept_demands [] all ≡ us ++ kept_demands us rest

-- a demand that stays
front_kept : (room : ℕ) (all us : List Demand) (w : Demand) (rest : List Demand) (filled : List Bool) → Front room all us (w ∷ rest) filled → get_or filled (number_of w) false ≡ false → Front room all (us ++ (w ∷ [])) rest (set filled (number_of w) true)
unfolding kept_demands
front_kept room all us w rest filled p stays =
    let from = p.room_left.0 in
    let in_w = p.room_left.1 in
    record {
      floor = w.moment;
      marks = filled_on room p.floor w us filled p.marks from in_w;
      room_left = p.room_left.2;
      kept = p.kept ∙ ap (λ (x : Bool). us ++ cond x (kept_demands us rest) (w ∷ kept_demands (us ++ (w ∷ [])) rest)) (p.marks.told w in_w from ∙ stays) ∙ one_by_one us w (kept_demands (us ++ (w ∷ [])) rest);
    }

-- one that was made before
front_dropped : (room : ℕ) (all us : List Demand) (w : Demand) (rest : List Demand) (filled : List Bool) → Front room all us (w ∷ rest) filled → get_or filled (number_of w) false ≡ true → Front room all us rest filled
unfolding kept_demands
front_dropped room all us w rest filled p goes =
    let from = p.room_left.0 in
    let in_w = p.room_left.1 in
    record {
      floor = w.moment;
      marks = filled_later room p.floor w.moment us filled from p.marks;
      room_left = p.room_left.2;
      kept = p.kept ∙ ap (λ (x : Bool). us ++ cond x (kept_demands us rest) (w ∷ kept_demands (us ++ (w ∷ [])) rest)) (p.marks.told w in_w from ∙ goes);
    }

module _ (room : ℕ) (all : List Demand) where
  pub front_goes : (kept : List code.Demand) (w : code.Demand) (vs rest : List code.Demand) (filled : List Bool) (at : ℕ) → rest ≡ w ∷ vs → at ≡ need_number (need_seen w.need)
      → Front room all (demands_seen kept) (demands_seen rest) filled → get_or filled at false ≡ true → Front room all (demands_seen kept) (demands_seen vs) filled
  front_goes kept w vs rest filled at e is p goes =
      front_dropped room all (demands_seen kept) (demand_seen w) (demands_seen vs) filled (subst (λ (l : List code.Demand). Front room all (demands_seen kept) (demands_seen l) filled) e p) (ap (λ (n : ℕ). get_or filled n false) (sym is) ∙ goes)

  pub front_stays : (kept kept' : List code.Demand) (w : code.Demand) (vs rest : List code.Demand) (filled : List Bool) (at : ℕ) → rest ≡ w ∷ vs → at ≡ need_number (need_seen w.need) → kept' ≡ kept ++ (w ∷ [])
      → Front room all (demands_seen kept) (demands_seen rest) filled → get_or filled at false ≡ false → Front room all (demands_seen kept') (demands_seen vs) (set filled at true)
  front_stays kept kept' w vs rest filled at e is new p stays =
      let next = front_kept room all (demands_seen kept) (demand_seen w) (demands_seen vs) filled (subst (λ (l : List code.Demand). Front room all (demands_seen kept) (demands_seen l) filled) e p) (ap (λ (n : ℕ). get_or filled n false) (sym is) ∙ stays) in
      subst (λ (n : ℕ). Front room all (demands_seen kept') (demands_seen vs) (set filled n true)) (sym is)
      (subst (λ (l : List Demand). Front room all l (demands_seen vs) (set filled (number_of (demand_seen w)) true)) (sym (ap demands_seen new ∙ demands_push kept w)) next)

  pub front_first : (kept : List code.Demand) (filled : List Bool) → kept ≡ [] → AreAskable room 0 all → length filled ≡ room → ((c : ℕ) → c < room → get_or filled c false ≡ false) → Front room all (demands_seen kept) all filled
  front_first kept filled e made size fresh =
      subst (λ (l : List code.Demand). Front room all (demands_seen l) all filled) (sym e) (record { floor = 0; marks = filled_none room filled size fresh; room_left = made; kept = refl })

  pub front_last : (kept rest : List code.Demand) (filled : List Bool) → rest ≡ [] → Front room all (demands_seen kept) (demands_seen rest) filled → demands_seen kept ≡ kept_demands [] all
  unfolding kept_demands
  front_last kept rest filled e p =
      let q : Front room all (demands_seen kept) [] filled = subst (λ (l : List code.Demand). Front room all (demands_seen kept) (demands_seen l) filled) e p in
      sym (append-nil (demands_seen kept)) ∙ sym q.kept
