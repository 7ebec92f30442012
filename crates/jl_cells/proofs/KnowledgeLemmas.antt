-- What is known of a row, read and written at one cell.
use Rattle.std.proofs.Common.{◌≡◌, ◌≢◌, ℕ, zero, suc, ◌+◌, ◌<◌, List, [], ◌∷◌, map, length, get_or, set, Bool, Option, Some, None, is_some, MatchOption, IfSome, Bor, refl, subst, sym, ap, ◌∙◌, add-zero, zero-add, ⊎_elim, arith, rules}
use Rattle.std.proofs.lemmas.List.{get_or-map, get_or_past, map-set, set-get_or, length-map}
use Rattle.std.proofs.Math.Seq.{map-set_same}
use Rattle.std.proofs.lemmas.Bool.{cases_lt}
use Rattle.std.proofs.lemmas.Cmp.{nat_cmp_total}
use Rattle.std.specs.Ordering.{nat_cmp}
use Rattle.std.specs.FinMap.{FinMap, empty, get, contains_key, insert, gets, same_map, nat_cmp-IsAntisymmetric, get-empty}
use Rattle.jl_cells.specs.Knowledge.{Seen, Sees, AreOne, Meet, Knowledge, Keeps, Learns, learned, known_from, knowledge_of}

new_cells : {C : Type 0} (X : Type 0) (name : C → ℕ) (cells : List C) → map (λ (t : Seen X). t.cell) (map (λ c. record { cell = name c; value = None }) cells) ≡ map name cells
new_cells X name [] = refl
new_cells X name (c ∷ cells) = ap (λ ns. name c ∷ ns) (new_cells X name cells)

module _ {X : Type 0} where
  abbrev pub cells : List (Seen X) → List ℕ
  cells seen = map (λ s. s.cell) seen

  abbrev pub values : List (Seen X) → List (Option X)
  values seen = map (λ s. s.value) seen

  insert_again : (m : FinMap nat_cmp X) (k : ℕ) (x y : X) → insert (insert m k y) k x ≡ insert m k x
  insert_again m k x y = same_map nat_cmp_total nat_cmp-IsAntisymmetric _ _ (λ q. grind (gets, rules))

  insert_both : (m : FinMap nat_cmp X) (k j : ℕ) (x y : X) → k ≢ j → insert (insert m j x) k y ≡ insert (insert m k y) j x
  insert_both m k j x y apart = same_map nat_cmp_total nat_cmp-IsAntisymmetric _ _ (λ q. grind (gets, rules))

  insert_keeps : (m : FinMap nat_cmp X) (i : ℕ) (x : X) (j : ℕ) (y : X) → (get m i ≡ Some y → y ≡ x) → get m j ≡ Some y → get (insert m i x) j ≡ Some y
  insert_keeps m i x j y same was = grind (gets, rules)

  nothing_below : (k q : ℕ) (xs : List (Option X)) → q < k → get (known_from k xs) q ≡ None
  nothing_below k q [] below = get-empty nat_cmp q
  nothing_below k q (None ∷ xs) below = nothing_below (k + 1) q xs (omega arith)
  nothing_below k q (Some x ∷ xs) below = grind (gets, rules, nothing_below (k + 1) q xs)

  get-known_from : (k i : ℕ) (xs : List (Option X)) → get (known_from k xs) (k + i) ≡ get_or xs i None
  get-known_from k i [] = get-empty nat_cmp (k + i)
  get-known_from k zero (None ∷ xs) = nothing_below (k + 1) (k + 0) xs (omega arith)
  get-known_from k zero (Some x ∷ xs) = grind (gets, rules)
  get-known_from k (suc i) (None ∷ xs) = let there : k + suc i ≡ k + 1 + i = omega arith in rw there (get-known_from (k + 1) i xs)
  get-known_from k (suc i) (Some x ∷ xs) =
      let there : k + suc i ≡ k + 1 + i = omega arith in
      let apart : k ≢ k + 1 + i = omega arith in
      rw there (grind (gets, rules, get-known_from (k + 1) i xs))

  known_from-set : (k i : ℕ) (xs : List (Option X)) (x : X) → i < length xs → known_from k (set xs i (Some x)) ≡ insert (known_from k xs) (k + i) x
  known_from-set k i [] x within = absurd (omega arith)
  known_from-set k zero (None ∷ xs) x within = rw add-zero
  known_from-set k zero (Some y ∷ xs) x within = rw (add-zero, insert_again)
  known_from-set k (suc i) (None ∷ xs) x within =
      let there : k + suc i ≡ k + 1 + i = omega arith in rw (there, known_from-set (k + 1) i xs x (omega arith))
  known_from-set k (suc i) (Some y ∷ xs) x within =
      let there : k + suc i ≡ k + 1 + i = omega arith in
      let apart : k ≢ k + 1 + i = omega arith in
      rw (there, known_from-set (k + 1) i xs x (omega arith), insert_both _ k (k + 1 + i) x y apart)

  known_at : (seen : List (Seen X)) (i : ℕ) → get (knowledge_of seen).known i ≡ get_or (values seen) i None
  known_at seen i = let at : get (known_from 0 (values seen)) (0 + i) ≡ get_or (values seen) i None = get-known_from 0 i (values seen) in rw zero-add at at

  get-knowledge_of : (seen : List (Seen X)) (i : ℕ) (d : Seen X) → i < length seen → get (knowledge_of seen).known i ≡ (get_or seen i d).value
  get-knowledge_of seen i d within = known_at seen i ∙ get_or-map (λ (t : Seen X). t.value) seen i d None within

  knowledge_of-set : (seen : List (Seen X)) (i : ℕ) (d : Seen X) (x : X) → i < length seen
      → knowledge_of (set seen i (record (get_or seen i d) { value = Some x })) ≡ learned (knowledge_of seen) i x
  knowledge_of-set seen i d x within =
      let here : i < length (values seen) = omega (arith, length-map seen (λ (t : Seen X). t.value)) in
      let known : known_from 0 (set (values seen) i (Some x)) ≡ insert (known_from 0 (values seen)) i x = rw zero-add at (known_from-set 0 i (values seen) x here) in
      rw (map-set_same (λ (t : Seen X). t.cell) seen i (record (get_or seen i d) { value = Some x }) d refl, map-set (λ (t : Seen X). t.value) seen i (record (get_or seen i d) { value = Some x }), known)

  -- two rows meet at a cell where what was seen of it does
  pub meet_here : (a b a' b' : List (Seen X)) (i : ℕ) (d e : Seen X) → a ≡ a' → b ≡ b' → i < length a → i < length b → AreOne (get_or a i d).value (get_or b i e).value
      → AreOne (get_or (values a') i None) (get_or (values b') i None)
  meet_here a b a' b' i d e same_a same_b in_a in_b one x y ax by =
      one x y
      (sym (get_or-map (λ (t : Seen X). t.value) a i d None in_a) ∙ (ap (λ s. get_or (values s) i None) same_a ∙ ax))
      (sym (get_or-map (λ (t : Seen X). t.value) b i e None in_b) ∙ (ap (λ s. get_or (values s) i None) same_b ∙ by))

  -- and meet where they do at each cell
  pub meets : (a b : List (Seen X)) → ((k : ℕ) → k < length a → AreOne (get_or (values a) k None) (get_or (values b) k None)) → Meet (knowledge_of a) (knowledge_of b)
  meets a b one i x y ax by =
      ⊎_elim
      (λ within. one i within x y (sym (known_at a i) ∙ ax) (sym (known_at b i) ∙ by))
      (λ past. let none : get (knowledge_of a).known i ≡ None = known_at a i ∙ get_or_past (values a) i None (omega (arith, length-map a (λ (t : Seen X). t.value))) in cc)
      (cases_lt i (length a))

  -- what is known of a cell is known of it in the row
  pub known_in_row : (seen : List (Seen X)) (i : ℕ) (s : Seen X) (b : Bool) → i < length seen → s ≡ get_or seen i s → b ≡ is_some s.value → b ≡ contains_key (knowledge_of seen).known i
  known_in_row seen i s b within at is = is ∙ ap (λ (o : Option X). is_some o) (ap (λ (t : Seen X). t.value) at ∙ sym (get-knowledge_of seen i s within))

  -- a value that is seen in a cell is learned in the row
  pub learns : (seen : List (Seen X)) (i : ℕ) (d new : Seen X) (x : X) → i < length seen → Sees (get_or seen i d) x new → Learns (knowledge_of seen) i x (knowledge_of (set seen i new))
  learns seen i d new x within sees = (
    subst (λ (o : Option X). IfSome o (λ y. y ≡ x)) (sym (get-knowledge_of seen i d within)) sees.0,
    ap (λ (t : Seen X). knowledge_of (set seen i t)) sees.1 ∙ knowledge_of-set seen i d x within,
  )

  -- the same of a look, which may find nothing
  pub looks : (seen : List (Seen X)) (i : ℕ) (d new : Seen X) (found : Option (Bor X)) → i < length seen
      → MatchOption found (((get_or seen i d).value ≡ None) × (new ≡ get_or seen i d)) (λ x. Sees (get_or seen i d) x.now new)
      → MatchOption found ((get (knowledge_of seen).known i ≡ None) × (set seen i new ≡ seen)) (λ x. Learns (knowledge_of seen) i x.now (knowledge_of (set seen i new)))
  looks seen i d new None within nothing = (get-knowledge_of seen i d within ∙ nothing.0, ap (set seen i) nothing.1 ∙ set-get_or seen i d)
  looks seen i d new (Some x) within sees = learns seen i d new x.now within sees

  -- what is learned of one cell leaves what was known of each
  pub learns_keeps : (old new : Knowledge X) (i : ℕ) (x : X) → Learns old i x new → Keeps old new
  learns_keeps old new i x fact j y was =
      let same : get old.known i ≡ Some y → y ≡ x = λ e. subst (λ (o : Option X). IfSome o (λ z. z ≡ x)) e fact.0 in
      let after : get (insert old.known i x) j ≡ Some y = insert_keeps old.known i x j y same was in
      ap (λ (k : Knowledge X). get k.known j) fact.1 ∙ after

  pub learns_known : (old new : Knowledge X) (i : ℕ) (x : X) → Learns old i x new → get new.known i ≡ Some x
  learns_known old new i x fact = let after : get (insert old.known i x) i ≡ Some x = grind (gets, rules) in ap (λ (k : Knowledge X). get k.known i) fact.1 ∙ after

  pub looks_keeps : (old new : List (Seen X)) (i : ℕ) (found : Option (Bor X)) → MatchOption found ((get (knowledge_of old).known i ≡ None) × (new ≡ old)) (λ x. Learns (knowledge_of old) i x.now (knowledge_of new))
      → Keeps (knowledge_of old) (knowledge_of new)
  looks_keeps old new i None same = λ j y was. subst (λ (s : List (Seen X)). get (knowledge_of s).known j ≡ Some y) (sym same.1) was
  looks_keeps old new i (Some x) fact = learns_keeps (knowledge_of old) (knowledge_of new) i x.now fact

  pub within_row : {C : Type 0} (seen : List (Seen X)) (cells : List C) (name : C → ℕ) → map (λ (t : Seen X). t.cell) seen ≡ map name cells → length seen ≡ length cells
  within_row seen cells name row = sym (length-map seen (λ (t : Seen X). t.cell)) ∙ (ap length row ∙ length-map cells name)

  -- where a pass is of a row of cells, each of its cells is the one in that place
  pub same_cell : {C : Type 0} (name : C → ℕ) (seen : List (Seen X)) (cells : List C) (i : ℕ) (d : Seen X) (e : C) → map (λ (t : Seen X). t.cell) seen ≡ map name cells → i < length cells
      → (get_or seen i d).cell ≡ name (get_or cells i e)
  same_cell name seen cells i d e row within =
      let here : i < length seen = omega (arith, within_row seen cells name row) in
      sym (get_or-map (λ (t : Seen X). t.cell) seen i d 0 here) ∙ (ap (λ ns. get_or ns i 0) row ∙ get_or-map name cells i e 0 within)

  -- of a new row nothing is known
  new_known : {C : Type 0} (name : C → ℕ) (k : ℕ) (cells : List C) → known_from {X = X} k (map (λ (t : Seen X). t.value) (map (λ c. record { cell = name c; value = None }) cells)) ≡ empty
  new_known name k [] = refl
  new_known name k (c ∷ cells) = new_known name (k + 1) cells

  pub new_row : {C : Type 0} (name : C → ℕ) (cells : List C) (seen : List (Seen X)) (names : List ℕ) → seen ≡ map (λ c. record { cell = name c; value = None }) cells → map name cells ≡ names
      → knowledge_of seen ≡ record { cells = names; known = empty }
  new_row name cells seen names new are = rw (new, new_cells X name cells, new_known name 0 cells, are)
