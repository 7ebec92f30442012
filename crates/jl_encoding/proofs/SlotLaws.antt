-- Slots, and the ids of entries.
use Rattle.std.proofs.Common.{◌≡◌, ℕ, zero, suc, ◌+◌, ◌-◌, ◌<◌, ◌≤◌, ◌==◌, ◌&&◌, Bool, true, false, List, [], ◌∷◌, ◌++◌, find, cond, Option, Some, None, Ok, nat_eq, refl, sym, subst, inl, inr, arith}
use Rattle.std.specs.List.{AllByRecursion}
use Rattle.std.proofs.lemmas.Bool.{eqb-true, eqb-false, eq-eqb, ne_eqb, and_cases}
use Rattle.jl_base.specs.Results.{some_or}
use Rattle.jl_rows.specs.declared.row.Table.{Table}
use Rattle.jl_rows.specs.Written.{Row}
use Rattle.jl_rows.specs.History.{History, is_table, counted, ids_written, entry_id, slot}
use Rattle.jl_encoding.specs.Slots.{numbers_from, in_turn, unless_given, entry_written}

-- what is found passes the test, and what holds of all holds of it
pub find_passes : (p : ℕ → Bool) (xs : List ℕ) (n : ℕ) → find p xs ≡ Some n → p n ≡ true
find_passes p [] n e = cc
find_passes p (x ∷ xs) n e = by_test (p x) refl e (λ h. find_passes p xs n h)
  where
    by_test : (b : Bool) → p x ≡ b → cond b (Some x) (find p xs) ≡ Some n → (find p xs ≡ Some n → p n ≡ true) → p n ≡ true
    by_test true h found rest = let same : x ≡ n = cc in subst (λ (y : ℕ). p y ≡ true) same h
    by_test false h found rest = rest found

pub find_all : (P : ℕ → Type 0) (p : ℕ → Bool) (xs : List ℕ) (n : ℕ) → AllByRecursion P xs → find p xs ≡ Some n → P n
find_all P p [] n all e = absurd (cc)
find_all P p (x ∷ xs) n all e = by_test (p x) e (λ h. find_all P p xs n all.1 h)
  where
    by_test : (b : Bool) → cond b (Some x) (find p xs) ≡ Some n → (find p xs ≡ Some n → P n) → P n
    by_test true found rest = let same : x ≡ n = cc in subst P same all.0
    by_test false found rest = rest found

all_append : (P : ℕ → Type 0) (xs ys : List ℕ) → AllByRecursion P xs → AllByRecursion P ys → AllByRecursion P (xs ++ ys)
all_append P [] ys a b = b
all_append P (x ∷ xs) ys a b = (a.0, all_append P xs ys a.1 b)

-- a slot of a table of this size
abbrev pub IsSlot : ℕ → ℕ → Type 0
IsSlot size n = (0 < n) × (n ≤ size)

pub numbers_are : (size low count : ℕ) → 0 < low → (0 < count → low + count ≤ size + 1) → AllByRecursion (IsSlot size) (numbers_from low count)
numbers_are size low zero above within = tt
numbers_are size low (suc count) above within =
    let all : low + suc count ≤ size + 1 = within (omega arith) in
    ((above, omega (arith, all)), numbers_are size (low + 1) count (omega arith) (λ some. omega (arith, all)))

pub turn_is : (size last : ℕ) → AllByRecursion (IsSlot size) (in_turn size last)
turn_is size last = all_append (IsSlot size) (numbers_from (last + 1) (size - last)) (numbers_from 1 size) (numbers_are size (last + 1) (size - last) (omega arith) (λ some. omega (arith, some))) (numbers_are size 1 size (omega arith) (λ some. omega arith))

pub some_or_ok : {A E : Type 0} (x : Option A) (e : E) (n : A) → some_or x e ≡ Ok n → x ≡ Some n
some_or_ok (Some y) e n h = cc
some_or_ok None e n h = cc

-- the rule for 0 gives back what is written by it
pub counted_given : (ns : List ℕ) (n : ℕ) → 0 < n → counted (unless_given (counted (0 ∷ ns)) n ∷ ns) ≡ n
counted_given ns n some = by_test (nat_eq (counted (0 ∷ ns)) n) refl
  where
    by_test : (b : Bool) → nat_eq (counted (0 ∷ ns)) n ≡ b → counted (unless_given (counted (0 ∷ ns)) n ∷ ns) ≡ n
    by_test true h = rw h (eqb-true (counted (0 ∷ ns)) n h)
    by_test false h =
        let above : nat_eq n 0 ≡ false = ne_eqb n 0 (λ e. omega (arith, e, some)) in
        let same : n + 0 ≡ n = omega arith in
        rw (h, above) same

pub table_same : (t : Table) → is_table t t ≡ true
table_same Table.Name = refl
table_same Table.Prefix = refl
table_same Table.Datatype = refl

pub table_is : (t u : Table) → is_table t u ≡ true → t ≡ u
table_is Table.Name Table.Name h = refl
table_is Table.Prefix Table.Prefix h = refl
table_is Table.Datatype Table.Datatype h = refl
table_is t u h = cc

module _ (t : Table) (n : ℕ) (text : List ℕ) (H : History) (some : 0 < n) where
  abbrev pub entry : Row
  entry = Row.Entry t (entry_written t n H) text

  pub entry_is : entry_id t (entry ∷ H) ≡ n
  entry_is = rw (table_same t) (counted_given (ids_written t H) n some)

  -- the entry's slot has its text
  pub slot_new : slot t n (entry ∷ H) ≡ Some text
  unfolding slot
  slot_new = let same : nat_eq n n ≡ true = eq-eqb n n refl in rw (entry_is, table_same t, same) refl

  -- and another one has what it had
  pub slot_other : (u : Table) (k : ℕ) → (is_table u t && (k == n)) ≡ false → slot u k (entry ∷ H) ≡ slot u k H
  unfolding slot
  slot_other u k other = elim (and_cases (is_table u t) (nat_eq k n) other) [
    | inl no_table ↦ rw no_table refl
    | inr no_slot ↦ by_table (is_table u t) refl (ne_eqb n k (λ e. eqb-false k n no_slot (sym e)))
  ]
    where
      by_table : (b : Bool) → is_table u t ≡ b → nat_eq n k ≡ false → slot u k (entry ∷ H) ≡ slot u k H
      by_table true same unlike =
          let id_is : entry_id u (entry ∷ H) ≡ n = subst (λ (v : Table). entry_id v (entry ∷ H) ≡ n) (sym (table_is u t same)) entry_is in
          rw (id_is, same, unlike) refl
      by_table false same unlike = rw same refl
