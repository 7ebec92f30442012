-- A table inside an item: it stands for the rows so far and the slots that the item uses, and still does behind a text.
use Rattle.std.proofs.Common.{◌≡◌, ℕ, suc, ◌+◌, ◌-◌, ◌<◌, ◌≤◌, ◌⊎◌, Bool, true, false, not, List, [], ◌∷◌, ◌++◌, length, find, slice_get, Some, nat_lt, nat_eq, if◌then◌else◌, refl, ap, sym, ◌∙◌, subst, inl, inr, arith, length-append}
use Rattle.std.specs.Prelude.{slice_set}
use Rattle.std.proofs.lemmas.Bool.{cases_eq, eq-eqb, ne_eqb, ltb-true, ltb-false}
use Rattle.jl_rows.specs.declared.row.Table.{Table}
use Rattle.jl_rows.specs.Written.{StreamOptions}
use Rattle.jl_rows.specs.History.{History, is_table, entry_id, slot}
use Rattle.jl_rows.specs.Decoder.{size_of}
use Rattle.jl_encoding.specs.Sameness.{is_text}
use Rattle.jl_encoding.specs.Slots.{Claim, numbers_from, in_turn, holder, is_claimed}
use Rattle.jl_encoding.proofs.SlotLaws.{IsSlot, find_all, turn_is, table_same, entry, entry_is, slot_new, slot_other}
use Rattle.jl_encode.specs.Desks.{Texts, place, is_used, used, next_place, entered}
use Rattle.jl_encode.specs.Standing.{TableAgrees}
use Rattle.jl_encode.proofs.Places.{get_set_same, get_set_other, get_push_same, get_push_other, length_slice_set, shifted, turn_shifted, place_shifted, place_within}

-- The item uses the slots that its claims name, and each of them holds a text.
pub record TableStands (o : StreamOptions) (K : History) (cs : List Claim) (t : Table) (item : ℕ) (T : Texts) : Type 0 where
  pub agrees : TableAgrees o K t (item + 1) T
  pub claimed : (k : ℕ) → is_claimed t (k + 1) cs ≡ is_used item k T
  pub held : (k : ℕ) → is_used item k T ≡ true → k < length T.held

first_passes : (p : ℕ → Bool) (last count n : ℕ) (rest : List ℕ) → count ≡ suc n → p last ≡ true → find p (numbers_from last count ++ rest) ≡ Some last
first_passes p last count n rest e h = rw (e, h) refl

module _ (o : StreamOptions) (t : Table) (x : List ℕ) (item : ℕ) (T : Texts) (K : History) (cs : List Claim) (S : TableStands o K cs t item T) where
  abbrev pub claim : ℕ → Claim
  claim k = record { table = t; id = k + 1; text = x }

  -- the slot that holds the text
  pub holder_is : holder o t x K ≡ shifted (place x T)
  holder_is =
      let size = S.agrees.size in
      subst (λ (n : ℕ). find (λ m. is_text x (slot t m K)) (numbers_from 1 n) ≡ shifted (place x T)) size (place_shifted (λ m. slot t m K) x T.held 0 T.size (λ m k e. subst (λ (n : ℕ). slot t n K ≡ slice_get T.held k) (omega (arith, e)) (S.agrees.slots k)) S.agrees.held_fit)

  -- the next slot that is free
  pub next_is : find (λ n. not (is_claimed t n cs)) (in_turn (size_of o t) (entry_id t K)) ≡ shifted (next_place item T)
  next_is =
      let size = S.agrees.size in
      let last = S.agrees.last in
      rw (sym size, sym last) (turn_shifted (λ k. not (is_used item k T)) (λ n. not (is_claimed t n cs)) T.last (T.size - T.last) T.size (λ k. ap not (S.claimed k)))

  next_within : (k : ℕ) → next_place item T ≡ Some k → k < T.size
  next_within k e =
      let found = next_is ∙ ap shifted e in
      let is : IsSlot (size_of o t) (k + 1) = find_all (IsSlot (size_of o t)) (λ n. not (is_claimed t n cs)) (in_turn (size_of o t) (entry_id t K)) (k + 1) (turn_is (size_of o t) (entry_id t K)) found in
      let top = is.1 in
      let size = S.agrees.size in
      omega (arith, top, size)

  -- while there are slots without a text, the first of them is the next
  next_first : (k : ℕ) → next_place item T ≡ Some k → length T.held < T.size → k ≡ length T.held
  next_first k e room =
      let last = S.agrees.filling room in
      let first : next_place item T ≡ Some T.last = first_passes (λ k. not (is_used item k T)) T.last (T.size - T.last) (T.size - T.last - 1) (numbers_from 0 T.size) (omega (arith, last, room)) (ap not (by_use (is_used item T.last T) refl)) in
      let same : T.last ≡ k = let both = sym first ∙ e in cc in
      omega (arith, same, last)
    where
      by_use : (b : Bool) → is_used item T.last T ≡ b → b ≡ false
      by_use true h = let here = S.held T.last h in let last = S.agrees.filling room in absurd (omega (arith, here, last))
      by_use false h = refl

  module _ (k : ℕ) (below : k < T.size) where
    in_marks : k < length T.marks
    in_marks = let all = S.agrees.marked in omega (arith, all, below)

    claimed_now : (j : ℕ) → is_claimed t (j + 1) (claim k ∷ cs) ≡ is_used item j (used item k T)
    claimed_now j = elim (cases_eq j k) [
      | inl e ↦
          (let same : nat_eq (k + 1) (j + 1) ≡ true = eq-eqb (k + 1) (j + 1) (omega (arith, e)) in
          let here : slice_get (slice_set T.marks k item) j ≡ Some item = subst (λ (i : ℕ). slice_get (slice_set T.marks k item) i ≡ Some item) (sym e) (get_set_same T.marks k item in_marks) in
          let self : nat_eq item item ≡ true = eq-eqb item item refl in
          rw (table_same t, same, here, self) refl)
      | inr ne ↦
          (let apart : nat_eq (k + 1) (j + 1) ≡ false = ne_eqb (k + 1) (j + 1) (λ e. ne (omega (arith, e))) in
          let here = get_set_other T.marks k j item ne in
          rw (table_same t, apart, here) (S.claimed j))
    ]

    older_now : (j mark : ℕ) → slice_get (slice_set T.marks k item) j ≡ Some mark → mark < item + 1
    older_now j mark h = elim (cases_eq j k) [
      | inl e ↦
          (let here : slice_get (slice_set T.marks k item) j ≡ Some item = subst (λ (i : ℕ). slice_get (slice_set T.marks k item) i ≡ Some item) (sym e) (get_set_same T.marks k item in_marks) in
          let same : item ≡ mark = let both = sym here ∙ h in cc in
          omega (arith, same))
      | inr ne ↦ S.agrees.older j mark (sym (get_set_other T.marks k j item ne) ∙ h)
    ]

    used_now : (j : ℕ) → is_used item j (used item k T) ≡ true → (j ≡ k) ⊎ (is_used item j T ≡ true)
    used_now j h = elim (cases_eq j k) [
      | inl e ↦ inl e
      | inr ne ↦ let here = get_set_other T.marks k j item ne in inr (rw here at h)
    ]

  -- a text that the table holds
  pub found_stands : (k : ℕ) → place x T ≡ Some k → TableStands o K (claim k ∷ cs) t item (used item k T)
  found_stands k e =
      let A = S.agrees in
      let here = place_within x T.held 0 k e in
      let fits = A.held_fit in
      let below : k < T.size = omega (arith, here, fits) in
      record {
        agrees = record { size = A.size; slots = A.slots; last = A.last; held_fit = A.held_fit; last_fits = A.last_fits; filling = A.filling; marked = length_slice_set T.marks k item ∙ A.marked; older = older_now k below };
        claimed = claimed_now k below;
        held = λ j h. elim (used_now k below j h) [ inl same ↦ omega (arith, same, here) | inr before ↦ S.held j before ];
      }

  -- a new text
  pub new_stands : (k : ℕ) (some : 0 < k + 1) → next_place item T ≡ Some k → TableStands o (entry t (k + 1) x K some ∷ K) (claim k ∷ cs) t item (used item k (entered x k T))
  new_stands k some e = by_test (nat_lt k (length T.held)) refl
    where
      A : TableAgrees o K t (item + 1) T
      A = S.agrees

      below : k < T.size
      below = next_within k e

      K' : History
      K' = entry t (k + 1) x K some ∷ K

      slot_apart : (j : ℕ) → (j ≡ k → ⊥) → slot t (j + 1) K' ≡ slice_get T.held j
      slot_apart j ne =
          let apart : nat_eq (j + 1) (k + 1) ≡ false = ne_eqb (j + 1) (k + 1) (λ e. ne (omega (arith, e))) in
          slot_other t (k + 1) x K some t (j + 1) (rw (table_same t, apart) refl) ∙ A.slots j

      slot_here : (j : ℕ) → j ≡ k → slot t (j + 1) K' ≡ Some x
      slot_here j e = subst (λ (i : ℕ). slot t (i + 1) K' ≡ Some x) (sym e) (slot_new t (k + 1) x K some)

      full : k < length T.held → length T.held ≡ T.size
      full here = elim (cases_eq (length T.held) T.size) [
        | inl same ↦ same
        | inr ne ↦ let fits = A.held_fit in let first = next_first k e (omega (arith, fits, ne)) in absurd (omega (arith, first, here))
      ]

      by_test : (b : Bool) → nat_lt k (length T.held) ≡ b → TableStands o K' (claim k ∷ cs) t item (record { size = T.size; held = if b then slice_set T.held k x else T.held ++ x ∷ []; marks = slice_set T.marks k item; last = k + 1 })
      by_test true h =
          let here : k < length T.held = ltb-true k (length T.held) h in
          let all = full here in
          let len = length_slice_set T.held k x in
          record {
            agrees = record {
              size = A.size;
              slots = λ j. elim (cases_eq j k) [
                | inl same ↦ slot_here j same ∙ sym (subst (λ (i : ℕ). slice_get (slice_set T.held k x) i ≡ Some x) (sym same) (get_set_same T.held k x here))
                | inr ne ↦ slot_apart j ne ∙ sym (get_set_other T.held k j x ne)
              ];
              last = sym (entry_is t (k + 1) x K some);
              held_fit = omega (arith, len, all);
              last_fits = omega (arith, below);
              filling = λ room. absurd (omega (arith, len, all, room));
              marked = length_slice_set T.marks k item ∙ A.marked;
              older = older_now k below;
            };
            claimed = claimed_now k below;
            held = λ j used. elim (used_now k below j used) [ inl same ↦ omega (arith, same, here, len) | inr before ↦ let there = S.held j before in omega (arith, there, len) ];
          }
      by_test false h =
          let past : length T.held ≤ k = ltb-false k (length T.held) h in
          let first : k ≡ length T.held = next_first k e (omega (arith, past, below)) in
          let len : length (T.held ++ x ∷ []) ≡ length T.held + 1 = length-append T.held (x ∷ []) in
          record {
            agrees = record {
              size = A.size;
              slots = λ j. elim (cases_eq j k) [
                | inl same ↦ slot_here j same ∙ sym (get_push_same T.held j x (omega (arith, same, first)))
                | inr ne ↦ slot_apart j ne ∙ sym (get_push_other T.held j x (λ is. ne (omega (arith, is, first))))
              ];
              last = sym (entry_is t (k + 1) x K some);
              held_fit = omega (arith, len, first, below);
              last_fits = omega (arith, below);
              filling = λ room. omega (arith, len, first);
              marked = length_slice_set T.marks k item ∙ A.marked;
              older = older_now k below;
            };
            claimed = claimed_now k below;
            held = λ j used. elim (used_now k below j used) [ inl same ↦ omega (arith, same, first, len) | inr before ↦ let there = S.held j before in omega (arith, there, len) ];
          }

-- another table, behind a text that was held
pub found_apart : (o : StreamOptions) (K : History) (cs : List Claim) (t u : Table) (n : ℕ) (x : List ℕ) (item : ℕ) (U : Texts) → is_table t u ≡ false → TableStands o K cs u item U → TableStands o K (record { table = t; id = n; text = x } ∷ cs) u item U
found_apart o K cs t u n x item U apart S = record { agrees = S.agrees; claimed = λ k. rw apart (S.claimed k); held = S.held }

-- and behind a new one
pub new_apart : (o : StreamOptions) (K : History) (cs : List Claim) (t u : Table) (n : ℕ) (x : List ℕ) (item : ℕ) (U : Texts) (some : 0 < n) → is_table t u ≡ false → is_table u t ≡ false → TableStands o K cs u item U
    → TableStands o (entry t n x K some ∷ K) (record { table = t; id = n; text = x } ∷ cs) u item U
new_apart o K cs t u n x item U some apart other S =
    let A = S.agrees in
    record {
      agrees = record {
        size = A.size;
        slots = λ k. slot_other t n x K some u (k + 1) (rw other refl) ∙ A.slots k;
        last = A.last ∙ rw other refl;
        held_fit = A.held_fit;
        last_fits = A.last_fits;
        filling = A.filling;
        marked = A.marked;
        older = A.older;
      };
      claimed = λ k. rw apart (S.claimed k);
      held = S.held;
    }
