-- The pass from the front: the marks tell which addresses were written to.
use Rattle.std.proofs.Common.{◌≡◌, ℕ, ◌<◌, ◌≤◌, Bool, true, false, ◌&&◌, ◌||◌, List, [], ◌∷◌, ◌++◌, length, refl, ap, sym, subst, ◌∙◌, cond, arith, nat_le, set, get_or, get_or-set_same, get_or-set_other}
use Rattle.std.proofs.lemmas.Bool.{le-leb}
use Rattle.std.proofs.lemmas.List.{length-set, append-nil}
use Rattle.jl_sym_laws.specs.Summaries.{Written}
use Rattle.jl_sym_laws.specs.Compacting.{same_address, is_unseen, was_filled, kept_writes}
use Rattle.jl_sym.specs.declared.summary.Write.{Write}
use Rattle.jl_sym.specs.Seen.{id_seen, write_seen}
use Rattle.jl_compact.specs.Marks.{address_number, AreFlags, AreMarkable}
use Rattle.jl_compact.specs.Parts.{writes_seen}
use Rattle.jl_compact.proofs.Addresses.{number_of, other_number, one_number}
use Rattle.jl_compact.proofs.Lists.{one_by_one, writes_push}

pub record Filled (room floor : ℕ) (us : List Written) (filled : List Bool) : Type 0 where
  pub size : length filled ≡ room
  pub told : (w : Written) → number_of w < room → floor ≤ w.moment → was_filled w us ≡ get_or filled (number_of w) false

pub filled_none : (room : ℕ) (filled : List Bool) → length filled ≡ room → ((c : ℕ) → c < room → get_or filled c false ≡ false) → Filled room 0 [] filled
unfolding was_filled
filled_none room filled size all = record { size = size; told = λ w in_w le. sym (all (number_of w) in_w) }

-- a moment on
pub filled_later : (room floor n : ℕ) (us : List Written) (filled : List Bool) → floor ≤ n → Filled room floor us filled → Filled room n us filled
filled_later room floor n us filled le p = record { size = p.size; told = λ w in_w h. (let far : floor ≤ w.moment = omega (arith, le, h) in p.told w in_w far) }

or_same : (a b c : Bool) → (a || (b || c)) ≡ (b || (a || c))
or_same true true c = refl
or_same true false c = refl
or_same false b c = refl

-- one more write at the end
filled_push : (w u : Written) (us : List Written) → was_filled w (us ++ (u ∷ [])) ≡ ((same_address u w && nat_le u.moment w.moment) || was_filled w us)
unfolding was_filled
filled_push w u [] = refl
filled_push w u (v ∷ us) =
    ap (λ (b : Bool). (same_address v w && nat_le v.moment w.moment) || b) (filled_push w u us)
    ∙ or_same (same_address v w && nat_le v.moment w.moment) (same_address u w && nat_le u.moment w.moment) (was_filled w us)

told_by : (room floor : ℕ) (u : Written) (us : List Written) (filled : List Bool) (w : Written) (b : Bool) → same_address u w ≡ b → Filled room floor us filled → floor ≤ u.moment → number_of u < room → number_of w < room → u.moment ≤ w.moment
    → ((b && nat_le u.moment w.moment) || was_filled w us) ≡ get_or (set filled (number_of u) true) (number_of w) false
told_by room floor u us filled w true e p from in_u in_w le =
    let size = p.size in
    let within : number_of u < length filled = omega (arith, size, in_u) in
    ap (λ (b : Bool). b || was_filled w us) (le-leb u.moment w.moment le)
    ∙ sym (ap (λ (c : ℕ). get_or (set filled (number_of u) true) c false) (sym (one_number u w e)) ∙ get_or-set_same filled (number_of u) true false within)
told_by room floor u us filled w false e p from in_u in_w le =
    let far : floor ≤ w.moment = omega (arith, from, le) in
    p.told w in_w far ∙ sym (get_or-set_other filled (number_of u) (number_of w) true false (λ same. other_number u w e (sym same)))

pub filled_on : (room floor : ℕ) (u : Written) (us : List Written) (filled : List Bool) → Filled room floor us filled → floor ≤ u.moment → number_of u < room → Filled room u.moment (us ++ (u ∷ [])) (set filled (number_of u) true)
filled_on room floor u us filled p from in_u = record {
  size = length-set filled (number_of u) true ∙ p.size;
  told = λ w in_w le. filled_push w u us ∙ told_by room floor u us filled w (same_address u w) refl p from in_u in_w le;
}

-- how far the pass has come: the writes that are left, with their flags
pub record Front (room : ℕ) (ks : List ℕ) (all us rest : List Written) (filled flags : List Bool) : Type 0 where
  pub floor : ℕ
  pub marks : Filled room floor us filled
  pub room_left : AreMarkable room floor rest
  pub flagged : AreFlags ks rest flags
  pub kept : kept_writes ks [] all ≡ us ++ kept_writes ks us rest

pub front_start : (room : ℕ) (ks : List ℕ) (all : List Written) (filled flags : List Bool) → AreMarkable room 0 all → AreFlags ks all flags → Filled room 0 [] filled → Front room ks all [] all filled flags
front_start room ks all filled flags made flagged none = record { floor = 0; marks = none; room_left = made; flagged = flagged; kept = refl }

-- a write that stays
pub front_kept : (room : ℕ) (ks : List ℕ) (all us : List Written) (w : Written) (rest : List Written) (filled : List Bool) (b : Bool) (flags : List Bool) → Front room ks all us (w ∷ rest) filled (b ∷ flags)
    → (get_or filled (number_of w) false && b) ≡ false → Front room ks all (us ++ (w ∷ [])) rest (set filled (number_of w) true) flags
unfolding kept_writes
front_kept room ks all us w rest filled b flags p stays =
    let from = p.room_left.0 in
    let in_w = p.room_left.1 in
    let test : (was_filled w us && is_unseen w rest ks) ≡ false = ap (λ (x : Bool). x && is_unseen w rest ks) (p.marks.told w in_w from) ∙ ap (λ (x : Bool). get_or filled (number_of w) false && x) (sym p.flagged.0) ∙ stays in
    record {
      floor = w.moment;
      marks = filled_on room p.floor w us filled p.marks from in_w;
      room_left = p.room_left.2;
      flagged = p.flagged.1;
      kept = p.kept ∙ ap (λ (x : Bool). us ++ cond x (kept_writes ks us rest) (w ∷ kept_writes ks (us ++ (w ∷ [])) rest)) test ∙ one_by_one us w (kept_writes ks (us ++ (w ∷ [])) rest);
    }

-- a write that is left out
pub front_dropped : (room : ℕ) (ks : List ℕ) (all us : List Written) (w : Written) (rest : List Written) (filled : List Bool) (b : Bool) (flags : List Bool) → Front room ks all us (w ∷ rest) filled (b ∷ flags)
    → (get_or filled (number_of w) false && b) ≡ true → Front room ks all us rest filled flags
unfolding kept_writes
front_dropped room ks all us w rest filled b flags p goes =
    let from = p.room_left.0 in
    let in_w = p.room_left.1 in
    let test : (was_filled w us && is_unseen w rest ks) ≡ true = ap (λ (x : Bool). x && is_unseen w rest ks) (p.marks.told w in_w from) ∙ ap (λ (x : Bool). get_or filled (number_of w) false && x) (sym p.flagged.0) ∙ goes in
    record {
      floor = w.moment;
      marks = filled_later room p.floor w.moment us filled from p.marks;
      room_left = p.room_left.2;
      flagged = p.flagged.1;
      kept = p.kept ∙ ap (λ (x : Bool). us ++ cond x (kept_writes ks us rest) (w ∷ kept_writes ks (us ++ (w ∷ [])) rest)) test;
    }

pub front_end : (room : ℕ) (ks : List ℕ) (all us : List Written) (filled flags : List Bool) → Front room ks all us [] filled flags → kept_writes ks [] all ≡ us
unfolding kept_writes
front_end room ks all us filled flags p = p.kept ∙ append-nil us

module _ (bytes : List ℕ) (room : ℕ) (ks : List ℕ) (all : List Written) where
  pub front_goes : (kept : List Write) (w : Write) (vs rest : List Write) (filled : List Bool) (f : Bool) (fs flags : List Bool) (at : ℕ) → rest ≡ w ∷ vs → flags ≡ f ∷ fs → at ≡ address_number w.table (id_seen w.id)
      → Front room ks all (writes_seen bytes kept) (writes_seen bytes rest) filled flags → (get_or filled at false && f) ≡ true → Front room ks all (writes_seen bytes kept) (writes_seen bytes vs) filled fs
  front_goes kept w vs rest filled f fs flags at e g is p goes =
      let q : Front room ks all (writes_seen bytes kept) (write_seen bytes w ∷ writes_seen bytes vs) filled (f ∷ fs)
      = subst (λ (l : List Bool). Front room ks all (writes_seen bytes kept) (write_seen bytes w ∷ writes_seen bytes vs) filled l) g (subst (λ (l : List Write). Front room ks all (writes_seen bytes kept) (writes_seen bytes l) filled flags) e p) in
      front_dropped room ks all (writes_seen bytes kept) (write_seen bytes w) (writes_seen bytes vs) filled f fs q (ap (λ (n : ℕ). get_or filled n false && f) (sym is) ∙ goes)

  pub front_stays : (kept kept' : List Write) (w : Write) (vs rest : List Write) (filled : List Bool) (f : Bool) (fs flags : List Bool) (at : ℕ) → rest ≡ w ∷ vs → flags ≡ f ∷ fs → at ≡ address_number w.table (id_seen w.id)
      → kept' ≡ kept ++ (w ∷ []) → Front room ks all (writes_seen bytes kept) (writes_seen bytes rest) filled flags → (get_or filled at false && f) ≡ false → Front room ks all (writes_seen bytes kept') (writes_seen bytes vs) (set filled at true) fs
  front_stays kept kept' w vs rest filled f fs flags at e g is new p stays =
      let q : Front room ks all (writes_seen bytes kept) (write_seen bytes w ∷ writes_seen bytes vs) filled (f ∷ fs)
      = subst (λ (l : List Bool). Front room ks all (writes_seen bytes kept) (write_seen bytes w ∷ writes_seen bytes vs) filled l) g (subst (λ (l : List Write). Front room ks all (writes_seen bytes kept) (writes_seen bytes l) filled flags) e p) in
      let next = front_kept room ks all (writes_seen bytes kept) (write_seen bytes w) (writes_seen bytes vs) filled f fs q (ap (λ (n : ℕ). get_or filled n false && f) (sym is) ∙ stays) in
      subst (λ (n : ℕ). Front room ks all (writes_seen bytes kept') (writes_seen bytes vs) (set filled n true) fs) (sym is)
      (subst (λ (l : List Written). Front room ks all l (writes_seen bytes vs) (set filled (number_of (write_seen bytes w)) true) fs) (sym (ap (writes_seen bytes) new ∙ writes_push bytes kept w)) next)

  pub front_first : (kept : List Write) (filled flags : List Bool) → kept ≡ [] → AreMarkable room 0 all → AreFlags ks all flags → length filled ≡ room → ((c : ℕ) → c < room → get_or filled c false ≡ false)
      → Front room ks all (writes_seen bytes kept) all filled flags
  front_first kept filled flags e made flagged size fresh =
      subst (λ (l : List Write). Front room ks all (writes_seen bytes l) all filled flags) (sym e) (front_start room ks all filled flags made flagged (filled_none room filled size fresh))

  pub front_last : (kept rest : List Write) (filled flags : List Bool) → rest ≡ [] → Front room ks all (writes_seen bytes kept) (writes_seen bytes rest) filled flags → writes_seen bytes kept ≡ kept_writes ks [] all
  front_last kept rest filled flags e p =
      sym (front_end room ks all (writes_seen bytes kept) filled flags (subst (λ (l : List Write). Front room ks all (writes_seen bytes kept) (writes_seen bytes l) filled flags) e p))
