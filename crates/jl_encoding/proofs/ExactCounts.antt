-- A table is asked for exactly as many different texts as the item uses slots of it, and one more where the empty prefix was
-- asked and has no slot.
use Rattle.std.proofs.Common.{◌≡◌, ℕ, ◌+◌, ◌<◌, ◌≤◌, ◌&&◌, ◌⊎◌, Bool, true, false, not, List, [], ◌∷◌, Some, None, if◌then◌else◌, refl, ap, sym, ◌∙◌, subst, inl, inr, arith}
use Rattle.std.specs.Str.{bytes_eq}
use Rattle.std.proofs.lemmas.Bool.{cases_eq, or_cases, or_left, or_right}
use Rattle.std.proofs.lemmas.Slice.Eq.{bytes_eq-Decides}
use Rattle.jl_rows.specs.declared.row.Table.{Table}
use Rattle.jl_rows.specs.Written.{StreamOptions}
use Rattle.jl_rows.specs.History.{History, is_table, slot}
use Rattle.jl_rows.specs.Decoder.{size_of}
use Rattle.jl_encoding.specs.Sameness.{is_text}
use Rattle.jl_encoding.specs.Slots.{Claim, numbers_from, holder, is_claimed}
use Rattle.jl_encoding.specs.Terms.{is_empty}
use Rattle.jl_encoding.specs.Wide.{has, different}
use Rattle.jl_encoding.proofs.SameLaws.{text_is}
use Rattle.jl_encoding.proofs.SlotLaws.{IsSlot, find_passes, find_all, numbers_are, slot_new}
use Rattle.jl_encoding.proofs.Tallies.{tally_same, tally_more}
use Rattle.jl_encoding.proofs.CountLaws.{Known, used, empty_same, asked}
use Rattle.jl_encoding.proofs.ClaimCounts.{claim, claimed_new, claimed_other, claimed_same, claimed_apart, still, K', apart_from, new_here, new_still, slot_apart, still_apart}

-- Hidden: the empty text was asked, and no slot that is used has it. Of all slots that are used the texts were asked.
pub record Exact (o : StreamOptions) (K : History) (cs : List Claim) (t : Table) (hidden : Bool) (xs : List (List ℕ)) : Type 0 where
  pub known : (x : List ℕ) → has x xs ≡ true → (hidden && is_empty x) ≡ false → Known o K cs t x
  pub texts : (n : ℕ) (y : List ℕ) → is_claimed t n cs ≡ true → slot t n K ≡ Some y → has y xs ≡ true
  pub there : hidden ≡ true → has [] xs ≡ true
  pub alone : hidden ≡ true → (n : ℕ) → is_claimed t n cs ≡ true → slot t n K ≡ Some [] → ⊥
  pub count : different xs ≡ used o cs t + (if hidden then 1 else 0)

-- a slot that is used, and has the text
pub record Held (K : History) (cs : List Claim) (t : Table) (x : List ℕ) : Type 0 where
  pub id : ℕ
  pub claimed : is_claimed t id cs ≡ true
  pub has : slot t id K ≡ Some x

has_here : (x y : List ℕ) (xs : List (List ℕ)) → x ≡ y → has y (x ∷ xs) ≡ true
has_here x y xs same = or_left (bytes_eq y x) (has y xs) ((bytes_eq-Decides y x).1 (sym same))

has_more : (x y : List ℕ) (xs : List (List ℕ)) → has y xs ≡ true → has y (x ∷ xs) ≡ true
has_more x y xs h = or_right (bytes_eq y x) (has y xs) h

empty_is_none : (x : List ℕ) → is_empty x ≡ true → x ≡ []
empty_is_none x h = empty_same x [] h refl

module _ (o : StreamOptions) (t : Table) (x : List ℕ) (xs : List (List ℕ)) (K K' : History) (cs cs' : List Claim) where
  -- a slot that is used has the text that was put, or was used before with the text that it has
  abbrev pub Back : Type 0
  Back = (m : ℕ) (y : List ℕ) → is_claimed t m cs' ≡ true → slot t m K' ≡ Some y → (x ≡ y) ⊎ ((is_claimed t m cs ≡ true) × (slot t m K ≡ Some y))

  -- the text's slot was used before, or one more slot is
  abbrev pub Moves : Type 0
  Moves = ((used o cs' t ≡ used o cs t) × Held K cs t x) ⊎ ((used o cs' t ≡ used o cs t + 1) × (Known o K cs t x → ⊥))

  texts_more : {hidden : Bool} → Exact o K cs t hidden xs → Back → (m : ℕ) (y : List ℕ) → is_claimed t m cs' ≡ true → slot t m K' ≡ Some y → has y (x ∷ xs) ≡ true
  texts_more e back m y claimed has_y = elim (back m y claimed has_y) [
    | inl same ↦ has_here x y xs same
    | inr before ↦ has_more x y xs (e.texts m y before.0 before.1)
  ]

  -- where the text isn't the hidden one
  count_more : (hidden : Bool) → Exact o K cs t hidden xs → Moves → (hidden && is_empty x) ≡ false → different (x ∷ xs) ≡ used o cs' t + (if hidden then 1 else 0)
  count_more hidden e (inl old) apart =
      let before = e.texts old.1.id x old.1.claimed old.1.has in
      let same = old.0 in
      let count = e.count in
      rw before (omega (arith, same, count))
  count_more hidden e (inr new) apart = by_old (has x xs) refl
    where
      by_old : (b : Bool) → has x xs ≡ b → different (x ∷ xs) ≡ used o cs' t + (if hidden then 1 else 0)
      by_old true is = absurd (new.1 (e.known x is apart))
      by_old false is =
          let one = new.0 in
          let count = e.count in
          rw is (omega (arith, one, count))

  count_shown : Exact o K cs t true xs → Moves → is_empty x ≡ true → different (x ∷ xs) ≡ used o cs' t + 0
  count_shown e (inl old) empty = absurd (e.alone refl old.1.id old.1.claimed (old.1.has ∙ ap Some (empty_is_none x empty)))
  count_shown e (inr new) empty =
      let before : has x xs ≡ true = subst (λ (y : List ℕ). has y xs ≡ true) (sym (empty_is_none x empty)) (e.there refl) in
      let one = new.0 in
      let count = e.count in
      rw before (omega (arith, one, count))

  pub put_exact : (hidden empty : Bool) → is_empty x ≡ empty → Exact o K cs t hidden xs → ((y : List ℕ) → Known o K cs t y → Known o K' cs' t y) → Known o K' cs' t x → Back → Moves → Exact o K' cs' t (hidden && not empty) (x ∷ xs)
  put_exact false empty is e kept here back moves =
      record {
        known = λ y h free. asked (λ y. Known o K' cs' t y) x y xs h here (λ before. kept y (e.known y before refl));
        texts = texts_more e back;
        there = λ no. absurd (cc);
        alone = λ no. absurd (cc);
        count = count_more false e moves refl;
      }
  put_exact true true is e kept here back moves =
      record {
        known = λ y h free. asked (λ y. Known o K' cs' t y) x y xs h here (λ before. by_empty y before (is_empty y) refl);
        texts = texts_more e back;
        there = λ no. absurd (cc);
        alone = λ no. absurd (cc);
        count = count_shown e moves is;
      }
    where
      by_empty : (y : List ℕ) → has y xs ≡ true → (b : Bool) → is_empty y ≡ b → Known o K' cs' t y
      by_empty y before true h = subst (λ z. Known o K' cs' t z) (empty_same x y is h) here
      by_empty y before false h = kept y (e.known y before h)
  put_exact true false is e kept here back moves =
      record {
        known = λ y h free. asked (λ y. Known o K' cs' t y) x y xs h here (λ before. kept y (e.known y before free));
        texts = texts_more e back;
        there = λ yes. has_more x [] xs (e.there refl);
        alone = λ yes m claimed has_none. elim (back m [] claimed has_none) [
          | inl same ↦ let full : is_empty x ≡ true = ap is_empty same in absurd (cc)
          | inr before ↦ e.alone refl m before.0 before.1
        ];
        count = count_more true e moves is;
      }

  -- the empty text is asked, and gets no slot; none is used yet
  pub skip_exact : (hidden : Bool) → Exact o K cs t hidden xs → is_empty x ≡ true → ((n : ℕ) → is_claimed t n cs ≡ false) → Exact o K cs t true (x ∷ xs)
  skip_exact hidden e empty none =
      record {
        known = λ y h some. e.known y (others y h some) (by_hidden hidden y some);
        texts = λ m y claimed h. has_more x y xs (e.texts m y claimed h);
        there = λ yes. has_here x [] xs (empty_is_none x empty);
        alone = λ yes m claimed h. let free = none m in absurd (cc);
        count = by_tests hidden (has x xs) e refl;
      }
    where
      by_hidden : (b : Bool) (y : List ℕ) → is_empty y ≡ false → (b && is_empty y) ≡ false
      by_hidden true y some = some
      by_hidden false y some = refl

      others : (y : List ℕ) → has y (x ∷ xs) ≡ true → is_empty y ≡ false → has y xs ≡ true
      others y h some = elim (or_cases (bytes_eq y x) (has y xs) h) [
        | inl same ↦ let is : y ≡ x = (bytes_eq-Decides y x).0 same in let full : is_empty y ≡ true = ap is_empty is ∙ empty in absurd (cc)
        | inr there ↦ there
      ]

      by_tests : (hidden old : Bool) → Exact o K cs t hidden xs → has x xs ≡ old → different (x ∷ xs) ≡ used o cs t + 1
      by_tests true true e is = let count = e.count in rw is count
      by_tests true false e is = let before : has x xs ≡ true = subst (λ (y : List ℕ). has y xs ≡ true) (sym (empty_is_none x empty)) (e.there refl) in absurd (cc)
      by_tests false true e is = let k = e.known x is refl in let free = none k.id in let yes = k.claimed in absurd (cc)
      by_tests false false e is = let count = e.count in rw is (omega (arith, count))

module _ (t : Table) (n : ℕ) (x : List ℕ) (cs : List Claim) (o : StreamOptions) (K : History) where
  one_more : IsSlot (size_of o t) n → is_claimed t n cs ≡ false → used o (claim t n x cs ∷ cs) t ≡ used o cs t + 1
  one_more is free = tally_more (λ m. is_claimed t m cs) (λ m. is_claimed t m (claim t n x cs ∷ cs)) n 1 (size_of o t) (claimed_other t n x cs) free (claimed_new t n x cs) is.0 (omega (arith, is.1))

  -- in a slot that holds it already
  pub found_exact : (hidden : Bool) (xs : List (List ℕ)) → holder o t x K ≡ Some n → Exact o K cs t hidden xs → Exact o K (claim t n x cs ∷ cs) t (hidden && not (is_empty x)) (x ∷ xs)
  found_exact hidden xs held e =
      put_exact o t x xs K K cs (claim t n x cs ∷ cs) hidden (is_empty x) refl e (still t n x cs o K t) (record { id = n; held = held; claimed = claimed_new t n x cs }) back (by_claim (is_claimed t n cs) refl)
    where
      has_it : slot t n K ≡ Some x
      has_it = text_is x (slot t n K) (find_passes (λ n. is_text x (slot t n K)) (numbers_from 1 (size_of o t)) n held)

      back : Back o t x xs K K cs (claim t n x cs ∷ cs)
      back m y claimed has_y = elim (cases_eq m n) [
        | inl e ↦ let here : slot t m K ≡ Some x = subst (λ (k : ℕ). slot t k K ≡ Some x) (sym e) has_it in inl (cc)
        | inr ne ↦ inr (sym (claimed_other t n x cs m ne) ∙ claimed, has_y)
      ]

      by_claim : (b : Bool) → is_claimed t n cs ≡ b → Moves o t x xs K K cs (claim t n x cs ∷ cs)
      by_claim true is = inl (tally_same (λ m. is_claimed t m cs) (λ m. is_claimed t m (claim t n x cs ∷ cs)) (numbers_from 1 (size_of o t)) (claimed_same t n x cs is), record { id = n; claimed = is; has = has_it })
      by_claim false is =
          let slot_is : IsSlot (size_of o t) n = find_all (IsSlot (size_of o t)) (λ n. is_text x (slot t n K)) (numbers_from 1 (size_of o t)) n (numbers_are (size_of o t) 1 (size_of o t) (omega arith) (λ some. omega arith)) held in
          inr (one_more slot_is is, λ k. let h = k.held in let same : k.id ≡ n = cc in let there : is_claimed t n cs ≡ true = subst (λ (i : ℕ). is_claimed t i cs ≡ true) same k.claimed in absurd (cc))

  -- another table
  pub found_exact_apart : (u : Table) (hidden : Bool) (xs : List (List ℕ)) → is_table t u ≡ false → Exact o K cs u hidden xs → Exact o K (claim t n x cs ∷ cs) u hidden xs
  found_exact_apart u hidden xs apart e =
      let same = tally_same (λ m. is_claimed u m cs) (λ m. is_claimed u m (claim t n x cs ∷ cs)) (numbers_from 1 (size_of o u)) (claimed_apart t n x cs u apart) in
      let count = e.count in
      record {
        known = λ y h free. still t n x cs o K u y (e.known y h free);
        texts = λ m y claimed h. e.texts m y (sym (claimed_apart t n x cs u apart m) ∙ claimed) h;
        there = e.there;
        alone = λ yes m claimed h. e.alone yes m (sym (claimed_apart t n x cs u apart m) ∙ claimed) h;
        count = omega (arith, same, count);
      }

  module _ (some : 0 < n) where
    abbrev pub K2 : History
    K2 = K' t n x cs o K some

    -- in a new entry
    pub new_exact : (hidden : Bool) (xs : List (List ℕ)) → n ≤ size_of o t → holder o t x K ≡ None → is_claimed t n cs ≡ false → Exact o K cs t hidden xs → Exact o K2 (claim t n x cs ∷ cs) t (hidden && not (is_empty x)) (x ∷ xs)
    new_exact hidden xs fits none free e =
        put_exact o t x xs K K2 cs (claim t n x cs ∷ cs) hidden (is_empty x) refl e (new_still t n x cs o K some none free) (record { id = n; held = new_here t n x cs o K some fits none; claimed = claimed_new t n x cs }) back
        (inr (one_more (some, fits) free, λ k. let h = k.held in cc))
      where
        back : Back o t x xs K K2 cs (claim t n x cs ∷ cs)
        back m y claimed has_y = elim (cases_eq m n) [
          | inl e ↦ let here : slot t m K2 ≡ Some x = subst (λ (k : ℕ). slot t k K2 ≡ Some x) (sym e) (slot_new t n x K some) in inl (cc)
          | inr ne ↦ inr (sym (claimed_other t n x cs m ne) ∙ claimed, sym (apart_from t n x cs o K some m ne) ∙ has_y)
        ]

    pub new_exact_apart : (u : Table) (hidden : Bool) (xs : List (List ℕ)) → is_table t u ≡ false → is_table u t ≡ false → Exact o K cs u hidden xs → Exact o K2 (claim t n x cs ∷ cs) u hidden xs
    new_exact_apart u hidden xs apart other e =
        let same = tally_same (λ m. is_claimed u m cs) (λ m. is_claimed u m (claim t n x cs ∷ cs)) (numbers_from 1 (size_of o u)) (claimed_apart t n x cs u apart) in
        let count = e.count in
        record {
          known = λ y h free. still_apart t n x cs o K some u other y (e.known y h free);
          texts = λ m y claimed h. e.texts m y (sym (claimed_apart t n x cs u apart m) ∙ claimed) (sym (slot_apart t n x cs o K some u other m) ∙ h);
          there = e.there;
          alone = λ yes m claimed h. e.alone yes m (sym (claimed_apart t n x cs u apart m) ∙ claimed) (sym (slot_apart t n x cs o K some u other m) ∙ h);
          count = omega (arith, same, count);
        }
