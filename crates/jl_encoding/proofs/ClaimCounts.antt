-- A text is put into a slot, and what each table was asked is still counted.
use Rattle.std.proofs.Common.{◌≡◌, ℕ, ◌+◌, ◌<◌, ◌≤◌, ◌==◌, ◌&&◌, ◌⊎◌, Bool, true, false, List, ◌∷◌, Some, None, nat_eq, refl, ap, sym, ◌∙◌, subst, inl, inr, arith}
use Rattle.std.specs.Str.{bytes_eq}
use Rattle.std.proofs.lemmas.Bool.{cases_eq, eq-eqb, ne_eqb, or_right, and_left, and_right}
use Rattle.std.proofs.lemmas.Slice.Eq.{bytes_eq-Decides}
use Rattle.jl_rows.specs.declared.row.Table.{Table}
use Rattle.jl_rows.specs.Written.{StreamOptions}
use Rattle.jl_rows.specs.History.{History, is_table, slot}
use Rattle.jl_rows.specs.Decoder.{size_of}
use Rattle.jl_encoding.specs.Sameness.{is_text}
use Rattle.jl_encoding.specs.Slots.{Claim, numbers_from, holder, is_claimed}
use Rattle.jl_encoding.proofs.SlotLaws.{find_passes, table_same, entry, slot_new, slot_other}
use Rattle.jl_encoding.proofs.Tallies.{tally_same, tally_one, find_same, find_first}
use Rattle.jl_encoding.proofs.CountLaws.{Known, used, Count, grow}

module _ (t : Table) (n : ℕ) (x : List ℕ) (cs : List Claim) where
  abbrev pub claim : Claim
  claim = record { table = t; id = n; text = x }

  pub claimed_new : is_claimed t n (claim ∷ cs) ≡ true
  claimed_new = let same : nat_eq n n ≡ true = eq-eqb n n refl in rw (table_same t, same) refl

  pub claimed_old : (u : Table) (k : ℕ) → is_claimed u k cs ≡ true → is_claimed u k (claim ∷ cs) ≡ true
  claimed_old u k h = or_right (is_table t u && (n == k)) (is_claimed u k cs) h

  pub claimed_other : (m : ℕ) → (m ≡ n → ⊥) → is_claimed t m (claim ∷ cs) ≡ is_claimed t m cs
  claimed_other m ne = let apart : nat_eq n m ≡ false = ne_eqb n m (λ e. ne (sym e)) in rw (table_same t, apart) refl

  pub claimed_same : is_claimed t n cs ≡ true → (m : ℕ) → is_claimed t m (claim ∷ cs) ≡ is_claimed t m cs
  claimed_same is m = elim (cases_eq m n) [
    | inl e ↦ let here : is_claimed t m cs ≡ true = subst (λ (k : ℕ). is_claimed t k cs ≡ true) (sym e) is in claimed_old t m here ∙ sym here
    | inr ne ↦ claimed_other m ne
  ]

  pub claimed_apart : (u : Table) → is_table t u ≡ false → (m : ℕ) → is_claimed u m (claim ∷ cs) ≡ is_claimed u m cs
  claimed_apart u apart m = rw apart refl

  module _ (o : StreamOptions) (K : History) where
    pub still : (u : Table) (y : List ℕ) → Known o K cs u y → Known o K (claim ∷ cs) u y
    still u y k = record { id = k.id; held = k.held; claimed = claimed_old u k.id k.claimed }

    -- in a slot that holds it already
    pub found_counts : (xs : List (List ℕ)) → holder o t x K ≡ Some n → Count o K cs t xs → Count o K (claim ∷ cs) t (x ∷ xs)
    found_counts xs e c = grow o t x xs K K cs (claim ∷ cs) c (still t) (record { id = n; held = e; claimed = claimed_new }) (by_claim (is_claimed t n cs) refl)
      where
        by_claim : (b : Bool) → is_claimed t n cs ≡ b → (used o (claim ∷ cs) t ≤ used o cs t) ⊎ ((used o (claim ∷ cs) t ≤ used o cs t + 1) × (Known o K cs t x → ⊥))
        by_claim true is =
            let same = tally_same (λ m. is_claimed t m cs) (λ m. is_claimed t m (claim ∷ cs)) (numbers_from 1 (size_of o t)) (claimed_same is) in
            inl (omega (arith, same))
        by_claim false is =
            inr (
              tally_one (λ m. is_claimed t m cs) (λ m. is_claimed t m (claim ∷ cs)) n 1 (size_of o t) claimed_other,
              λ k. let h = k.held in let same : k.id ≡ n = cc in let there : is_claimed t n cs ≡ true = subst (λ (i : ℕ). is_claimed t i cs ≡ true) same k.claimed in absurd (cc),
            )

    -- another table
    pub found_apart : (u : Table) (xs : List (List ℕ)) → is_table t u ≡ false → Count o K cs u xs → Count o K (claim ∷ cs) u xs
    found_apart u xs apart c =
        let same = tally_same (λ m. is_claimed u m cs) (λ m. is_claimed u m (claim ∷ cs)) (numbers_from 1 (size_of o u)) (claimed_apart u apart) in
        let few = c.few in
        record { pend = c.pend; known = λ y h free. still u y (c.known y h free); few = omega (arith, same, few) }

    module _ (some : 0 < n) where
      abbrev pub K' : History
      K' = entry t n x K some ∷ K

      pub slot_same : (u : Table) (m : ℕ) → (is_table u t && (m == n)) ≡ false → slot u m K' ≡ slot u m K
      slot_same u m other = slot_other t n x K some u m other

      pub apart_from : (m : ℕ) → (m ≡ n → ⊥) → slot t m K' ≡ slot t m K
      apart_from m ne = slot_same t m (and_right (is_table t t) (nat_eq m n) (ne_eqb m n ne))

      pub new_here : n ≤ size_of o t → holder o t x K ≡ None → holder o t x K' ≡ Some n
      new_here fits none =
          let new = slot_new t n x K some in
          let passes : is_text x (slot t n K') ≡ true = rw new ((bytes_eq-Decides x x).1 refl) in
          find_first (λ m. is_text x (slot t m K)) (λ m. is_text x (slot t m K')) n 1 (size_of o t) (λ m ne. ap (is_text x) (apart_from m ne)) passes some (omega (arith, fits)) none

      pub new_still : holder o t x K ≡ None → is_claimed t n cs ≡ false → (y : List ℕ) → Known o K cs t y → Known o K' (claim ∷ cs) t y
      new_still none free y k = record {
        id = k.id;
        held = find_same (λ m. is_text y (slot t m K)) (λ m. is_text y (slot t m K')) (numbers_from 1 (size_of o t)) k.id fewer (ap (is_text y) (apart_from k.id unlike) ∙ find_passes (λ m. is_text y (slot t m K)) (numbers_from 1 (size_of o t)) k.id k.held) k.held;
        claimed = claimed_old t k.id k.claimed;
      }
        where
          unlike : k.id ≡ n → ⊥
          unlike e = let here : is_claimed t n cs ≡ true = subst (λ (i : ℕ). is_claimed t i cs ≡ true) e k.claimed in cc

          fewer : (m : ℕ) → is_text y (slot t m K') ≡ true → is_text y (slot t m K) ≡ true
          fewer m h = elim (cases_eq m n) [
            | inl e ↦
                (let new : slot t m K' ≡ Some x = subst (λ (i : ℕ). slot t i K' ≡ Some x) (sym e) (slot_new t n x K some) in
                let same : bytes_eq y x ≡ true = sym (ap (is_text y) new) ∙ h in
                let held : holder o t x K ≡ Some k.id = subst (λ (z : List ℕ). holder o t z K ≡ Some k.id) ((bytes_eq-Decides y x).0 same) k.held in
                absurd (cc))
            | inr ne ↦ sym (ap (is_text y) (apart_from m ne)) ∙ h
          ]

      -- in a new entry
      pub new_counts : (xs : List (List ℕ)) → n ≤ size_of o t → holder o t x K ≡ None → is_claimed t n cs ≡ false → Count o K cs t xs → Count o K' (claim ∷ cs) t (x ∷ xs)
      new_counts xs fits none free c =
          grow o t x xs K K' cs (claim ∷ cs) c (new_still none free) (record { id = n; held = new_here fits none; claimed = claimed_new })
          (inr (tally_one (λ m. is_claimed t m cs) (λ m. is_claimed t m (claim ∷ cs)) n 1 (size_of o t) claimed_other, λ k. let h = k.held in cc))

      -- another table
      pub slot_apart : (u : Table) → is_table u t ≡ false → (m : ℕ) → slot u m K' ≡ slot u m K
      slot_apart u other m = slot_same u m (and_left (is_table u t) (nat_eq m n) other)

      pub still_apart : (u : Table) → is_table u t ≡ false → (y : List ℕ) → Known o K cs u y → Known o K' (claim ∷ cs) u y
      still_apart u other y k = record {
        id = k.id;
        held = find_same (λ m. is_text y (slot u m K)) (λ m. is_text y (slot u m K')) (numbers_from 1 (size_of o u)) k.id (λ m h. sym (all m) ∙ h) (all k.id ∙ find_passes (λ m. is_text y (slot u m K)) (numbers_from 1 (size_of o u)) k.id k.held) k.held;
        claimed = claimed_old u k.id k.claimed;
      }
        where
          all : (m : ℕ) → is_text y (slot u m K') ≡ is_text y (slot u m K)
          all m = ap (is_text y) (slot_apart u other m)

      pub new_apart : (u : Table) (xs : List (List ℕ)) → is_table t u ≡ false → is_table u t ≡ false → Count o K cs u xs → Count o K' (claim ∷ cs) u xs
      new_apart u xs apart other c =
          let same = tally_same (λ m. is_claimed u m cs) (λ m. is_claimed u m (claim ∷ cs)) (numbers_from 1 (size_of o u)) (claimed_apart u apart) in
          let few = c.few in
          record { pend = c.pend; known = λ y h free. still_apart u other y (c.known y h free); few = omega (arith, same, few) }
