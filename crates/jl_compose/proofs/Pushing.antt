-- The second run's writes and demands, one after another.
use Rattle.std.proofs.Common.{◌≡◌, ℕ, ◌+◌, List, [], ◌∷◌, ◌++◌, map, length, Option, Some, None, refl, ap, subst, sym, ◌∙◌, append-nil, append_assoc}
use Rattle.std.specs.Option.{option_map}
use Rattle.jl_state.specs.Extents.{IsSound, IsFilled}
use Rattle.jl_state.specs.declared.extent.Extent.{Extent}
use Rattle.jl_sym_laws.specs.Summaries as sums
use Rattle.jl_sym_laws.specs.Composing.{later_write, later_demands, demanded, earlier_need, AreBefore, AreWithin}
use Rattle.jl_sym.specs.declared.summary.Write.{Write}
use Rattle.jl_sym.specs.declared.demand.Demand.{Demand}
use Rattle.jl_sym.specs.declared.demand.Need.{Need}
use Rattle.jl_sym.specs.Held.{AreTexts}
use Rattle.jl_sym.specs.Seen.{write_seen, need_seen, demand_seen, demands_seen}
use Rattle.jl_sym.proofs.EntryLemmas.{texts_push}
use Rattle.jl_compose.specs.Narrowing.{narrow_write, narrow_need, narrow_demand}
use Rattle.jl_compose.specs.Appending.{later_writes, narrow_later}

pub empty_is : {A : Type 0} (xs : List A) → length xs ≡ 0 → xs ≡ []
empty_is [] e = refl
empty_is (x ∷ xs) e = absurd (cc)

one_by_one : {A : Type 0} (xs : List A) (x : A) (ys : List A) → xs ++ (x ∷ ys) ≡ (xs ++ (x ∷ [])) ++ ys
one_by_one xs x ys = sym (append_assoc xs (x ∷ []) ys)

snoc : {A B : Type 0} (f : A → B) (xs : List A) (x : A) → map f (xs ++ (x ∷ [])) ≡ map f xs ++ (f x ∷ [])
snoc f [] x = refl
snoc f (y ∷ ys) x = ap (λ l. f y ∷ l) (snoc f ys x)

-- how far the writes were pushed
pub record Pushed (bytes : List ℕ) (a : sums.Summary) (rows : ℕ) (old all out rest : List Write) : Type 0 where
  pub made : map (write_seen bytes) old ++ later_writes a (map (write_seen bytes) all) ≡ map (write_seen bytes) out ++ later_writes a (map (write_seen bytes) rest)
  pub before : AreBefore rows (map (write_seen bytes) rest)
  pub held : AreTexts bytes old → AreTexts bytes all → AreTexts bytes out × AreTexts bytes rest

pub pushed_on : (bytes : List ℕ) (a : sums.Summary) (rows : ℕ) (old all out out' : List Write) (w v : Write) (vs rest : List Write) → rest ≡ w ∷ vs → Pushed bytes a rows old all out rest
    → write_seen bytes v ≡ narrow_write (later_write a (write_seen bytes w)) → v.text ≡ w.text → out' ≡ out ++ (v ∷ []) → Pushed bytes a rows old all out' vs
pushed_on bytes a rows old all out out' w v vs rest e p is same new =
    let q : Pushed bytes a rows old all out (w ∷ vs) = subst (Pushed bytes a rows old all out) e p in
    let later = later_writes a (map (write_seen bytes) vs) in
    record {
      made = q.made ∙ one_by_one (map (write_seen bytes) out) (narrow_write (later_write a (write_seen bytes w))) later
          ∙ ap (λ (x : sums.Written). (map (write_seen bytes) out ++ (x ∷ [])) ++ later) (sym is)
          ∙ ap (λ (l : List sums.Written). l ++ later) (sym (ap (map (write_seen bytes)) new ∙ snoc (write_seen bytes) out v));
      before = q.before.1;
      held = λ h k.
          let both = q.held h k in
          let texts = both.1 in
          (subst (AreTexts bytes) (sym new) (texts_push bytes out v both.0 (subst (λ (t : Extent). IsSound bytes t) (sym same) texts.0) (subst (λ (t : Extent). IsFilled t) (sym same) texts.1)), texts.2);
    }

pub pushed_all : (bytes : List ℕ) (a : sums.Summary) (rows : ℕ) (old all out rest : List Write) → length rest ≡ 0 → Pushed bytes a rows old all out rest
    → map (write_seen bytes) out ≡ map (write_seen bytes) old ++ later_writes a (map (write_seen bytes) all)
pushed_all bytes a rows old all out rest e p =
    let q : Pushed bytes a rows old all out [] = subst (Pushed bytes a rows old all out) (empty_is rest e) p in
    sym (q.made ∙ append-nil (map (write_seen bytes) out))

-- how far the demands were pushed
pub record Demanded (a : sums.Summary) (rows : ℕ) (old all out rest : List Demand) : Type 0 where
  pub made : demands_seen old ++ narrow_later a (demands_seen all) ≡ demands_seen out ++ narrow_later a (demands_seen rest)
  pub within : AreWithin rows (demands_seen rest)

narrow_demanded : (rows : ℕ) (d : sums.Demand) (need : Option sums.Need) (ds : List sums.Demand) → map narrow_demand (demanded rows d need ds) ≡ demanded rows d (option_map narrow_need need) (map narrow_demand ds)
narrow_demanded rows d None ds = refl
narrow_demanded rows d (Some need) ds = refl

next_demand : (a : sums.Summary) (d : sums.Demand) (ds : List sums.Demand) (need : Option sums.Need) → need ≡ option_map narrow_need (earlier_need a d.need)
    → narrow_later a (d ∷ ds) ≡ demanded a.rows d need (narrow_later a ds)
unfolding later_demands
next_demand a d ds need e =
    narrow_demanded a.rows d (earlier_need a d.need) (later_demands a ds)
    ∙ ap (λ (o : Option sums.Need). demanded a.rows d o (map narrow_demand (later_demands a ds))) (sym e)

module _ (a : sums.Summary) (rows : ℕ) (old all : List Demand) where
  pub demanded_none : (out : List Demand) (d : Demand) (ds rest : List Demand) (need : Option Need) → rest ≡ d ∷ ds → Demanded a rows old all out rest
      → option_map need_seen need ≡ option_map narrow_need (earlier_need a (need_seen d.need)) → need ≡ None → Demanded a rows old all out ds
  demanded_none out d ds rest need e p is none =
      let q : Demanded a rows old all out (d ∷ ds) = subst (Demanded a rows old all out) e p in
      record {
        made = q.made ∙ ap (λ (l : List sums.Demand). demands_seen out ++ l) (next_demand a (demand_seen d) (demands_seen ds) None (sym (ap (option_map need_seen) none) ∙ is));
        within = q.within.1;
      }

  pub demanded_some : (out out' : List Demand) (d : Demand) (ds rest : List Demand) (found : Option Need) (need : Need) (v : Demand) → rest ≡ d ∷ ds → Demanded a rows old all out rest
      → option_map need_seen found ≡ option_map narrow_need (earlier_need a (need_seen d.need)) → found ≡ Some need → out' ≡ out ++ (v ∷ [])
      → demand_seen v ≡ record (demand_seen d) { moment = a.rows + d.moment; need = need_seen need } → Demanded a rows old all out' ds
  demanded_some out out' d ds rest found need v e p is some new same =
      let q : Demanded a rows old all out (d ∷ ds) = subst (Demanded a rows old all out) e p in
      let later = narrow_later a (demands_seen ds) in
      record {
        made = q.made
            ∙ ap (λ (l : List sums.Demand). demands_seen out ++ l) (next_demand a (demand_seen d) (demands_seen ds) (Some (need_seen need)) (sym (ap (option_map need_seen) some) ∙ is))
            ∙ ap (λ (x : sums.Demand). demands_seen out ++ (x ∷ later)) (sym same)
            ∙ one_by_one (demands_seen out) (demand_seen v) later
            ∙ ap (λ (l : List sums.Demand). l ++ later) (sym (ap demands_seen new ∙ snoc demand_seen out v));
        within = q.within.1;
      }

  pub demanded_all : (out rest : List Demand) → length rest ≡ 0 → Demanded a rows old all out rest → demands_seen out ≡ demands_seen old ++ narrow_later a (demands_seen all)
  unfolding later_demands
  demanded_all out rest e p =
      let q : Demanded a rows old all out [] = subst (Demanded a rows old all out) (empty_is rest e) p in
      sym (q.made ∙ append-nil (demands_seen out))

-- what composing asks of the first summary isn't its lists
later_same : (a b : sums.Summary) (ds : List sums.Demand) → a.rows ≡ b.rows → ((need : sums.Need) → earlier_need a need ≡ earlier_need b need) → later_demands a ds ≡ later_demands b ds
unfolding later_demands
later_same a b [] e f = refl
later_same a b (d ∷ ds) e f = λ j. demanded (e j) d (f d.need j) (later_same a b ds e f j)

pub same_later : (a b : sums.Summary) (ds : List sums.Demand) → a.rows ≡ b.rows → ((need : sums.Need) → earlier_need a need ≡ earlier_need b need) → narrow_later a ds ≡ narrow_later b ds
same_later a b ds e f = ap (map narrow_demand) (later_same a b ds e f)
