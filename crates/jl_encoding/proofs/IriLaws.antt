-- An IRI is put, by its prefix and its name.
use Rattle.std.proofs.Common.{◌≡◌, ℕ, ◌<◌, ◌==◌, ◌&&◌, Bool, true, false, List, [], ◌∷◌, map, Some, Ok, nat_eq, if◌then◌else◌, refl, ap, ◌∙◌, subst, arith, take-append-drop}
use Rattle.std.proofs.lemmas.Bool.{and_parts, eqb-true, ne_eqb}
use Rattle.jl_base.specs.Results.{◌>>=◌}
use Rattle.jl_rows.specs.declared.row.Table.{Table}
use Rattle.jl_rows.specs.Written.{StreamOptions, Ids}
use Rattle.jl_rows.specs.History.{History, slot, prefix_id, name_id}
use Rattle.jl_rows.specs.Values.{slots_of, prefix_text, filled, iri_text}
use Rattle.jl_rows.proofs.Binding.{bound}
use Rattle.jl_encoding.specs.Splits.{prefix_len, prefix_of, name_of}
use Rattle.jl_encoding.specs.Slots.{State, unless_given, put_text}
use Rattle.jl_encoding.specs.Terms.{is_empty, put_prefix, ids_of, with_iri, put_iri}
use Rattle.jl_encoding.proofs.SlotLaws.{counted_given}
use Rattle.jl_encoding.proofs.Claims.{Holds, Step, no_step, steps}
use Rattle.jl_encoding.proofs.TextLaws.{PutsText, puts_text}

pub record PutsPrefix (o : StreamOptions) (H : History) (text : List ℕ) (st st' : State) (p : ℕ) : Type 0 where
  pub step : Step o H st st'
  pub seen : st'.seen ≡ st.seen
  pub given : (name : ℕ) → prefix_id (record { prefix = unless_given (prefix_id st.seen) p; name = name } ∷ st.seen) ≡ p
  pub says : (K : History) → Holds K st'.claims → prefix_text (slots_of K) p ≡ Ok text

-- what the rule gives where an id above 0 was put, and where none was
given_some : (seen : List Ids) (p name : ℕ) → 0 < p → prefix_id (record { prefix = unless_given (prefix_id seen) p; name = name } ∷ seen) ≡ p
given_some seen p name some = by_test (nat_eq (prefix_id seen) p) refl
  where
    by_test : (b : Bool) → nat_eq (prefix_id seen) p ≡ b → prefix_id (record { prefix = unless_given (prefix_id seen) p; name = name } ∷ seen) ≡ p
    by_test true h = rw h (eqb-true (prefix_id seen) p h)
    by_test false h = let above : nat_eq p 0 ≡ false = ne_eqb p 0 (λ e. omega (arith, e, some)) in rw (h, above) refl

given_none : (seen : List Ids) (name : ℕ) → prefix_id seen ≡ 0 → prefix_id (record { prefix = unless_given (prefix_id seen) 0; name = name } ∷ seen) ≡ 0
given_none seen name none = rw none refl

empty_is : (text : List ℕ) → is_empty text ≡ true → [] ≡ text
empty_is [] h = refl
empty_is (b ∷ bs) h = cc

filled_is : (K : History) (t : Table) (n : ℕ) (text : List ℕ) → slot t n K ≡ Some text → filled (slots_of K) t n ≡ Ok text
filled_is K t n text has = rw has refl

pub puts_prefix : (o : StreamOptions) (H : History) (text : List ℕ) (st : State) (r : ℕ × State) → put_prefix o H text st ≡ Ok r → PutsPrefix o H text st r.1 r.0
unfolding put_prefix
puts_prefix o H text st r e = by_test (is_empty text && (prefix_id st.seen == 0)) refl e
  where
    by_test : (b : Bool) → (is_empty text && (prefix_id st.seen == 0)) ≡ b → (if b then Ok (0, st) else put_text o H Table.Prefix text st) ≡ Ok r → PutsPrefix o H text st r.1 r.0
    by_test true h e =
        let parts = and_parts (is_empty text) (prefix_id st.seen == 0) h in
        let none : prefix_id st.seen ≡ 0 = eqb-true (prefix_id st.seen) 0 parts.1 in
        let made : PutsPrefix o H text st st 0 = record { step = no_step o H st; seen = refl; given = λ name. given_none st.seen name none; says = λ K holds. ap Ok (empty_is text parts.0) } in
        let same : ◌≡◌ {A = ℕ × State} (0, st) r = cc in
        subst (λ (p : ℕ × State). PutsPrefix o H text st p.1 p.0) same made
    by_test false h e =
        let put = puts_text o H Table.Prefix text st r e in
        let above : nat_eq r.0 0 ≡ false = ne_eqb r.0 0 (λ is. omega (arith, is, put.some)) in
        record {
          step = put.step;
          seen = put.seen;
          given = λ name. given_some st.seen r.0 name put.some;
          says = λ K holds. let has = filled_is K Table.Prefix r.0 text (put.says K holds) in rw (above, has) refl;
        }

pub record PutsIri (o : StreamOptions) (H : History) (text : List ℕ) (st st' : State) (i : Ids) : Type 0 where
  pub step : Step o H st st'
  pub seen : st'.seen ≡ i ∷ st.seen
  pub says : (K : History) → Holds K st'.claims → iri_text (slots_of K) (i ∷ st.seen) ≡ Ok text

both_put : (o : StreamOptions) (H : History) (text : List ℕ) (st : State) (p n : ℕ × State) → PutsPrefix o H (prefix_of text) st p.1 p.0 → PutsText o H Table.Name (name_of text) p.1 n.1 n.0
    → PutsIri o H text st (with_iri (ids_of st.seen p.0 n.0) n.1) (ids_of st.seen p.0 n.0)
both_put o H text st p n prefix name =
    let i = ids_of st.seen p.0 n.0 in
    let relabelled : Step o H n.1 (with_iri i n.1) = record { holds = λ h. h; keeps = λ K h. h; quiet = λ strict. refl; terms = λ x. refl; ids = refl } in
    record {
      step = steps prefix.step (steps name.step relabelled);
      seen = ap (λ (seen : List Ids). i ∷ seen) (name.seen ∙ prefix.seen);
      says = λ K holds.
          let prefix_is = prefix.given i.name in
          let prefix_has = prefix.says K (name.step.keeps K holds) in
          let name_is : name_id (i ∷ st.seen) ≡ n.0 = counted_given (map (λ (j : Ids). j.name) st.seen) n.0 name.some in
          let name_has = filled_is K Table.Name n.0 (name_of text) (name.says K holds) in
          rw (prefix_is, prefix_has, name_is, name_has) (ap Ok (take-append-drop (prefix_len text) text));
    }

pub puts_iri : (o : StreamOptions) (H : History) (text : List ℕ) (st : State) (r : Ids × State) → put_iri o H text st ≡ Ok r → PutsIri o H text st r.1 r.0
unfolding put_iri
puts_iri o H text st r e =
    let p = bound (put_prefix o H (prefix_of text) st) (λ (p : ℕ × State). put_text o H Table.Name (name_of text) p.1 >>= λ (n : ℕ × State). Ok (ids_of st.seen p.0 n.0, with_iri (ids_of st.seen p.0 n.0) n.1)) r e in
    let n = bound (put_text o H Table.Name (name_of text) p.value.1) (λ (n : ℕ × State). Ok (ids_of st.seen p.value.0 n.0, with_iri (ids_of st.seen p.value.0 n.0) n.1)) r p.then in
    let same : ◌≡◌ {A = Ids × State} (ids_of st.seen p.value.0 n.value.0, with_iri (ids_of st.seen p.value.0 n.value.0) n.value.1) r = let h = n.then in cc in
    subst (λ (q : Ids × State). PutsIri o H text st q.1 q.0) same
    (both_put o H text st p.value n.value (puts_prefix o H (prefix_of text) st p.value p.was) (puts_text o H Table.Name (name_of text) p.value.1 n.value n.was))
