-- Of a table that an item asks for no more different texts than it has slots, a slot is always free.
use Rattle.std.proofs.Common.{◌≡◌, ℕ, ◌+◌, ◌<◌, ◌≤◌, ◌&&◌, ◌⊎◌, Bool, true, false, List, [], ◌∷◌, Some, if◌then◌else◌, refl, ap, sym, ◌∙◌, subst, inl, inr, arith}
use Rattle.std.specs.Str.{bytes_eq}
use Rattle.std.proofs.lemmas.Bool.{or_cases}
use Rattle.std.proofs.lemmas.Slice.Eq.{bytes_eq-Decides}
use Rattle.jl_rows.specs.declared.row.Table.{Table}
use Rattle.jl_rows.specs.Written.{StreamOptions}
use Rattle.jl_rows.specs.History.{History}
use Rattle.jl_rows.specs.Decoder.{size_of}
use Rattle.jl_encoding.specs.Slots.{Claim, numbers_from, holder, is_claimed}
use Rattle.jl_encoding.specs.Terms.{is_empty}
use Rattle.jl_encoding.specs.Wide.{has, different}
use Rattle.jl_encoding.proofs.Tallies.{tally}

-- a text that the item uses: the slot that holds it
pub record Known (o : StreamOptions) (K : History) (cs : List Claim) (t : Table) (x : List ℕ) : Type 0 where
  pub id : ℕ
  pub held : holder o t x K ≡ Some id
  pub claimed : is_claimed t id cs ≡ true

abbrev pub used : StreamOptions → List Claim → Table → ℕ
used o cs t = tally (λ m. is_claimed t m cs) (numbers_from 1 (size_of o t))

-- What was asked of a table is used, and no more slots than there are different texts. Pend: the empty text was asked
-- and has no slot.
pub record Count (o : StreamOptions) (K : History) (cs : List Claim) (t : Table) (xs : List (List ℕ)) : Type 0 where
  pub pend : Bool
  pub known : (x : List ℕ) → has x xs ≡ true → (pend && is_empty x) ≡ false → Known o K cs t x
  pub few : used o cs t + (if pend then 1 else 0) ≤ different xs

pub more_different : (x : List ℕ) (xs : List (List ℕ)) → different xs ≤ different (x ∷ xs)
more_different x xs = by_test (has x xs)
  where
    by_test : (b : Bool) → different xs ≤ (if b then different xs else different xs + 1)
    by_test true = omega arith
    by_test false = omega arith

pub empty_same : (x y : List ℕ) → is_empty x ≡ true → is_empty y ≡ true → x ≡ y
empty_same [] [] a b = refl
empty_same [] (y ∷ ys) a b = cc
empty_same (x ∷ xs) y a b = cc

-- the text that was asked now, or one that was asked before
pub asked : (P : List ℕ → Type 0) (x y : List ℕ) (xs : List (List ℕ)) → has y (x ∷ xs) ≡ true → P x → (has y xs ≡ true → P y) → P y
asked P x y xs h here before = elim (or_cases (bytes_eq y x) (has y xs) h) [
  | inl same ↦ subst P (sym ((bytes_eq-Decides y x).0 same)) here
  | inr there ↦ before there
]

module _ (o : StreamOptions) (t : Table) (x : List ℕ) (xs : List (List ℕ)) where
  -- a text is put: its slot was used, or one more is
  pub grow : (K K' : History) (cs cs' : List Claim) → Count o K cs t xs → ((y : List ℕ) → Known o K cs t y → Known o K' cs' t y) → Known o K' cs' t x
      → (used o cs' t ≤ used o cs t) ⊎ ((used o cs' t ≤ used o cs t + 1) × (Known o K cs t x → ⊥)) → Count o K' cs' t (x ∷ xs)
  grow K K' cs cs' c kept here (inl le) =
      let few = c.few in
      record {
        pend = c.pend;
        known = λ y h free. asked (λ y. Known o K' cs' t y) x y xs h here (λ before. kept y (c.known y before free));
        few = omega (arith, le, few, more_different x xs);
      }
  grow K K' cs cs' c kept here (inr one) = by_tests c.pend (is_empty x) (has x xs) refl refl refl
    where
      by_tests : (pend empty old : Bool) → c.pend ≡ pend → is_empty x ≡ empty → has x xs ≡ old → Count o K' cs' t (x ∷ xs)
      by_tests pend empty false is_pend is_empty_x is_old =
          let few = c.few in
          let le = one.0 in
          record {
            pend = c.pend;
            known = λ y h free. asked (λ y. Known o K' cs' t y) x y xs h here (λ before. kept y (c.known y before free));
            few = rw is_old (omega (arith, le, few));
          }
      by_tests true true true is_pend is_empty_x is_old =
          let few : used o cs t + 1 ≤ different xs = rw is_pend at c.few in
          let le = one.0 in
          record {
            pend = false;
            known = λ y h free. asked (λ y. Known o K' cs' t y) x y xs h here (λ before. by_empty y before (is_empty y) refl);
            few = rw is_old (omega (arith, le, few));
          }
        where
          by_empty : (y : List ℕ) → has y xs ≡ true → (b : Bool) → is_empty y ≡ b → Known o K' cs' t y
          by_empty y before true e = subst (λ z. Known o K' cs' t z) (empty_same x y is_empty_x e) here
          by_empty y before false e = kept y (c.known y before (rw (is_pend, e) refl))
      by_tests true false true is_pend is_empty_x is_old = absurd (one.1 (c.known x is_old (rw (is_pend, is_empty_x) refl)))
      by_tests false empty true is_pend is_empty_x is_old = absurd (one.1 (c.known x is_old (rw is_pend refl)))

  -- the empty text is asked, and gets no slot
  pub skip : (K : History) (cs : List Claim) → Count o K cs t xs → is_empty x ≡ true → Count o K cs t (x ∷ xs)
  skip K cs c empty = by_tests c.pend (has x xs) refl refl
    where
      others : (y : List ℕ) → has y (x ∷ xs) ≡ true → is_empty y ≡ false → has y xs ≡ true
      others y h some = elim (or_cases (bytes_eq y x) (has y xs) h) [
        | inl same ↦ let e : y ≡ x = (bytes_eq-Decides y x).0 same in let full : is_empty y ≡ true = ap is_empty e ∙ empty in absurd (cc)
        | inr there ↦ there
      ]

      by_tests : (pend old : Bool) → c.pend ≡ pend → has x xs ≡ old → Count o K cs t (x ∷ xs)
      by_tests true old is_pend is_old =
          let few : used o cs t + 1 ≤ different xs = rw is_pend at c.few in
          record {
            pend = true;
            known = λ y h some. c.known y (others y h some) (rw (is_pend, some) refl);
            few = omega (arith, few, more_different x xs);
          }
      by_tests false true is_pend is_old =
          let few = c.few in
          record {
            pend = c.pend;
            known = λ y h free. asked (λ y. Known o K cs t y) x y xs h (c.known x is_old (rw is_pend refl)) (λ before. c.known y before free);
            few = omega (arith, few, more_different x xs);
          }
      by_tests false false is_pend is_old =
          let few : used o cs t + 0 ≤ different xs = rw is_pend at c.few in
          record {
            pend = true;
            known = λ y h some. c.known y (others y h some) (rw is_pend refl);
            few = rw is_old (omega (arith, few));
          }

  -- no slot is free, and the text is a new one: there are too many
  pub full : (K : History) (cs : List Claim) → Count o K cs t xs → (Known o K cs t x → ⊥) → used o cs t ≡ size_of o t → size_of o t < different (x ∷ xs)
  full K cs c unknown all = by_tests c.pend (is_empty x) (has x xs) refl refl refl
    where
      by_tests : (pend empty old : Bool) → c.pend ≡ pend → is_empty x ≡ empty → has x xs ≡ old → size_of o t < different (x ∷ xs)
      by_tests pend empty false is_pend is_empty_x is_old = let few = c.few in rw is_old (omega (arith, few, all))
      by_tests true true true is_pend is_empty_x is_old = let few : used o cs t + 1 ≤ different xs = rw is_pend at c.few in rw is_old (omega (arith, few, all))
      by_tests true false true is_pend is_empty_x is_old = absurd (unknown (c.known x is_old (rw (is_pend, is_empty_x) refl)))
      by_tests false empty true is_pend is_empty_x is_old = absurd (unknown (c.known x is_old (rw is_pend refl)))
