-- Marks while demands are made and slots are written.
use Rattle.std.proofs.Common.{◌≡◌, ◌⊎◌, ℕ, ◌+◌, ◌<◌, ◌≤◌, arith, true, List, [], ◌∷◌, ◌++◌, refl, ap, sym, ◌∙◌, subst, inl, inr, nat_le}
use Rattle.std.proofs.lemmas.Bool.{eq-eqb, le-leb, and_from}
use Rattle.jl_rows.specs.declared.row.Table.{Table}
use Rattle.jl_sym_laws.specs.RelativeIds.{Id}
use Rattle.jl_rows.specs.Values.{Position}
use Rattle.jl_sym_laws.specs.Summaries.{Written, Kept, Need, Demand}
use Rattle.jl_sym_laws.specs.Compacting.{same_id, same_need}
use Rattle.jl_sym_laws.specs.Cutting.{IsMadeNeed}
use Rattle.jl_sym_laws.specs.Meeting.{is_written}
use Rattle.jl_sym_laws.proofs.Meeting.{written_more, written_now}
use Rattle.jl_sym.specs.declared.marks.Marks.{Marks}
use Rattle.jl_sym.specs.declared.relative_id.RelativeId.{RelativeId}
use Rattle.jl_sym.specs.declared.relative_id.RelativeId.TheVariants as relatives
use Rattle.jl_sym.specs.Earlier.{Earlier}
use Rattle.jl_sym.specs.Marking.{is_marked, AreMarked, AreAsked, IsSlotOf}
use Rattle.jl_sym.specs.Seen.{id_seen}
use Rattle.jl_sym.proofs.AskLemmas.{asked_more, asked_now, good_push}

same_id_itself : (i : Id) → same_id i i ≡ true
same_id_itself (Id.Given n) = eq-eqb n n refl
same_id_itself (Id.After n) = eq-eqb n n refl

same_itself : (need : Need) → same_need need need ≡ true
same_itself (Need.Fits Table.Name i) = same_id_itself i
same_itself (Need.Fits Table.Prefix i) = same_id_itself i
same_itself (Need.Fits Table.Datatype i) = same_id_itself i
same_itself (Need.Filled Table.Name i) = same_id_itself i
same_itself (Need.Filled Table.Prefix i) = same_id_itself i
same_itself (Need.Filled Table.Datatype i) = same_id_itself i
same_itself (Need.Has (Kept.LastAt Position.Subject)) = refl
same_itself (Need.Has (Kept.LastAt Position.Predicate)) = refl
same_itself (Need.Has (Kept.LastAt Position.Object)) = refl
same_itself (Need.Has (Kept.LastAt Position.Graph)) = refl
same_itself (Need.Has Kept.OpenGraph) = refl
same_itself (Need.Lacks (Kept.LastAt Position.Subject)) = refl
same_itself (Need.Lacks (Kept.LastAt Position.Predicate)) = refl
same_itself (Need.Lacks (Kept.LastAt Position.Object)) = refl
same_itself (Need.Lacks (Kept.LastAt Position.Graph)) = refl
same_itself (Need.Lacks Kept.OpenGraph) = refl
same_itself Need.Never = refl

-- one more mark, and its demand
pub marked_push : (was : Earlier) (ds : List Demand) (old new : Marks) (need : Need) (x : Demand) → x.moment ≡ was.rows → x.need ≡ need
    → ((n : Need) → is_marked n new ≡ true → (is_marked n old ≡ true) ⊎ (n ≡ need)) → AreMarked was ds old → AreMarked was (ds ++ x ∷ []) new
marked_push was ds old new need x moment needs only marked n d is same le = elim (only n is) [
  | inl before ↦ elim (marked n d before same le) [
    | inl asked ↦ inl (asked_more d ds (x ∷ []) asked)
    | inr written ↦ inr written
  ]
  | inr here ↦
      let both : same_need x.need d.need ≡ true = ap (λ (k : Need). same_need k d.need) (needs ∙ sym here) ∙ ap (same_need n) same ∙ same_itself n in
      inl (asked_now d x ds (and_from (same_need x.need d.need) (nat_le x.moment d.moment) both (le-leb x.moment d.moment (subst (λ (k : ℕ). k ≤ d.moment) (sym moment) le))))
]

-- one more demand without a mark
pub asked_push : (was : Earlier) (ds : List Demand) (marks : Marks) (x : Demand) → x.moment ≡ was.rows → IsMadeNeed x.need → AreAsked was ds marks → AreAsked was (ds ++ x ∷ []) marks
asked_push was ds marks x moment made asked = record {
  good = good_push was.rows ds x asked.good moment made;
  marked = marked_push was ds marks marks x.need x moment refl (λ n is. inl is) asked.marked;
}

-- a row later
pub marked_later : (was : Earlier) (ds : List Demand) (marks : Marks) → AreMarked was ds marks → AreMarked (record was { rows = was.rows + 1 }) ds marks
marked_later was ds marks marked n d is same le = marked n d is same (omega (arith, le))

-- a row later, and one more write; where its id is known, its slot is marked
module _ (was : Earlier) (ds : List Demand) (old new : Marks) (t : Table) (id : RelativeId) (text : List ℕ) where
  abbrev pub written : Written
  written = record { moment = was.rows; table = t; id = id_seen id; text = text }

  meets_slot : (i : RelativeId) (n : Need) (k : ℕ) → IsSlotOf t i n → was.rows < k → is_written n k (was.writes ++ record { moment = was.rows; table = t; id = id_seen i; text = text } ∷ []) ≡ true
  meets_slot (relatives.Given m) n k is early =
      let w : Written = record { moment = was.rows; table = t; id = Id.Given m; text = text } in
      subst (λ (x : Need). is_written x k (was.writes ++ w ∷ []) ≡ true) (sym is) (written_now w m k was.writes refl early)
  meets_slot (relatives.After m) n k is early = absurd is

  pub marked_write : ((n : Need) → is_marked n new ≡ true → (is_marked n old ≡ true) ⊎ IsSlotOf t id n) → AreMarked was ds old → AreMarked (record { rows = was.rows + 1; writes = was.writes ++ written ∷ [] }) ds new
  marked_write only marked n d is same le =
      let early : was.rows < d.moment = omega (arith, le) in
      elim (only n is) [
        | inl before ↦ elim (marked n d before same (omega (arith, le))) [
          | inl asked ↦ inl asked
          | inr wrote ↦ inr (written_more n d.moment was.writes (written ∷ []) wrote)
        ]
        | inr slot ↦ inr (meets_slot id n d.moment slot early)
      ]
