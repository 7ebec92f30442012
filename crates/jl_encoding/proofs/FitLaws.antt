-- An item that fits the tables has rows.
use Rattle.std.proofs.Common.{◌≡◌, ℕ, ◌+◌, ◌<◌, ◌≤◌, ◌==◌, ◌&&◌, Bool, true, false, not, List, [], ◌∷◌, ◌++◌, find, Option, Some, None, Result, Ok, Err, if◌then◌else◌, refl, sym, ◌∙◌, subst, arith}
use Rattle.std.proofs.lemmas.Bool.{and_parts, not-true}
use Rattle.jl_base.specs.Results.{◌>>=◌, some_or}
use Rattle.jl_base.specs.Terms.{Tail, Value, Item}
use Rattle.jl_rows.specs.declared.row.Table.{Table}
use Rattle.jl_rows.specs.Written.{StreamOptions, Ids, Ending, Term, Row}
use Rattle.jl_rows.specs.History.{History, is_table, entry_id, prefix_id}
use Rattle.jl_rows.specs.Values.{Position, last_term}
use Rattle.jl_rows.specs.Decoder.{size_of}
use Rattle.jl_encoding.specs.Sameness.{is_value}
use Rattle.jl_encoding.specs.Splits.{prefix_of, name_of}
use Rattle.jl_encoding.specs.Slots.{Refusal, Full, State, numbers_from, in_turn, holder, is_claimed, with_claim, with_entry, used_or_new, put_text}
use Rattle.jl_encoding.specs.Terms.{is_empty, put_prefix, ids_of, with_iri, put_iri, put_tail, put_term, put_at}
use Rattle.jl_encoding.specs.Items.{start, item_rows}
use Rattle.jl_encoding.specs.Wide.{different, asked_by_iri, asked_by_tail, asked_by, asked_at, asked_by_item}
use Rattle.jl_encoding.proofs.SlotLaws.{IsSlot, find_passes, find_all, turn_is, table_is}
use Rattle.jl_encoding.proofs.Tallies.{tally, tally_all, length_numbers, find_append_none}
use Rattle.jl_encoding.proofs.CountLaws.{Count, more_different, skip, full}
use Rattle.jl_encoding.proofs.ClaimCounts.{found_counts, found_apart, new_counts, new_apart}

-- no table is asked for more different texts than it has slots
abbrev pub FitsTables : StreamOptions → History → Item → Type 0
FitsTables o H i = (t : Table) → different (asked_by_item t i H) ≤ size_of o t

-- what each table was asked
abbrev pub Asked : Type 0
Asked = Table → List (List ℕ)

abbrev pub Counts : StreamOptions → History → State → Asked → Type 0
Counts o H st A = (t : Table) → Count o (st.entries ++ H) st.claims t (A t)

-- an answer with the tables counted, or a table that was asked for too many
abbrev pub Fares : {X : Type 0} → StreamOptions → History → Result (X × State) Refusal → Asked → Type 0
Fares o H (Ok p) A = Counts o H p.1 A
Fares o H (Err e) A = (t : Table) × (size_of o t < different (A t))

then_fares : {X Y : Type 0} (o : StreamOptions) (H : History) (r : Result (X × State) Refusal) (f : X × State → Result (Y × State) Refusal) (A B : Asked) → Fares o H r A → ((t : Table) → different (A t) ≤ different (B t))
    → ((p : X × State) → Counts o H p.1 A → Fares o H (f p) B) → Fares o H (r >>= f) B
then_fares o H (Ok p) f A B fares grows on = on p fares
then_fares o H (Err e) f A B fares grows on =
    let more = grows fares.0 in
    let many = fares.1 in
    (fares.0, omega (arith, more, many))

is_apart : (t u : Table) → is_table t u ≡ false → is_table u t ≡ false
is_apart Table.Name Table.Name h = h
is_apart Table.Prefix Table.Prefix h = h
is_apart Table.Datatype Table.Datatype h = h
is_apart t u h = refl

module _ (o : StreamOptions) (H : History) where
  text_fares : (t : Table) (x : List ℕ) (st : State) (A B : Asked) → Counts o H st A → B t ≡ x ∷ A t → ((u : Table) → is_table u t ≡ false → B u ≡ A u) → Fares o H (put_text o H t x st) B
  unfolding put_text
  text_fares t x st A B counts here others = by_holder (holder o t x (st.entries ++ H)) refl
    where
      -- each table, by whether it is this one
      each : (K : History) (cs : List _) → Count o K cs t (x ∷ A t) → ((u : Table) → is_table t u ≡ false → is_table u t ≡ false → Count o K cs u (A u)) → (u : Table) → Count o K cs u (B u)
      each K cs this apart u = by_table (is_table u t) refl
        where
          by_table : (b : Bool) → is_table u t ≡ b → Count o K cs u (B u)
          by_table true same = subst (λ (v : Table). Count o K cs v (B v)) (sym (table_is u t same)) (rw here this)
          by_table false other = let e = others u other in rw e (apart u (is_apart u t other) other)

      by_found : holder o t x (st.entries ++ H) ≡ None → (f : Option ℕ) → find (λ n. not (is_claimed t n st.claims)) (in_turn (size_of o t) (entry_id t (st.entries ++ H))) ≡ f
          → Fares o H (some_or f Full >>= λ n. Ok (n, with_claim t n x (with_entry H t n x st))) B
      by_found none (Some n) found =
          let K = st.entries ++ H in
          let is : IsSlot (size_of o t) n = find_all (IsSlot (size_of o t)) (λ n. not (is_claimed t n st.claims)) (in_turn (size_of o t) (entry_id t K)) n (turn_is (size_of o t) (entry_id t K)) found in
          let free : is_claimed t n st.claims ≡ false = not-true (is_claimed t n st.claims) (find_passes (λ n. not (is_claimed t n st.claims)) (in_turn (size_of o t) (entry_id t K)) n found) in
          each ((with_entry H t n x st).entries ++ H) (with_claim t n x st).claims (new_counts t n x st.claims o K is.0 (A t) is.1 none free (counts t))
          (λ u apart other. new_apart t n x st.claims o K is.0 u (A u) apart other (counts u))
      by_found none None found =
          let K = st.entries ++ H in
          let size = size_of o t in
          let all = tally_all (λ n. is_claimed t n st.claims) (numbers_from 1 size) (find_append_none (λ n. not (is_claimed t n st.claims)) (numbers_from (entry_id t K + 1) _) (numbers_from 1 size) found) ∙ length_numbers 1 size in
          (t, rw here (full o t x (A t) K st.claims (counts t) (λ k. let h = k.held in cc) all))

      by_holder : (held : Option ℕ) → holder o t x (st.entries ++ H) ≡ held → Fares o H (used_or_new o H t x st held) B
      by_holder (Some n) e = each (st.entries ++ H) (with_claim t n x st).claims (found_counts t n x st.claims o (st.entries ++ H) (A t) e (counts t)) (λ u apart other. found_apart t n x st.claims o (st.entries ++ H) u (A u) apart (counts u))
      by_holder None e = by_found e (find (λ n. not (is_claimed t n st.claims)) (in_turn (size_of o t) (entry_id t (st.entries ++ H)))) refl

  -- what is asked behind the prefix of an IRI
  with_prefix : List ℕ → Asked → Asked
  with_prefix text A Table.Prefix = prefix_of text ∷ A Table.Prefix
  with_prefix text A Table.Name = A Table.Name
  with_prefix text A Table.Datatype = A Table.Datatype

  prefix_fares : (text : List ℕ) (st : State) (A : Asked) → Counts o H st A → Fares o H (put_prefix o H (prefix_of text) st) (with_prefix text A)
  unfolding put_prefix with_prefix
  prefix_fares text st A counts = by_test (is_empty (prefix_of text) && (prefix_id st.seen == 0)) refl
    where
      others : (u : Table) → is_table u Table.Prefix ≡ false → with_prefix text A u ≡ A u
      others Table.Name h = refl
      others Table.Prefix h = cc
      others Table.Datatype h = refl

      skipped : is_empty (prefix_of text) ≡ true → (u : Table) → Count o (st.entries ++ H) st.claims u (with_prefix text A u)
      skipped empty Table.Name = counts Table.Name
      skipped empty Table.Prefix = skip o Table.Prefix (prefix_of text) (A Table.Prefix) (st.entries ++ H) st.claims (counts Table.Prefix) empty
      skipped empty Table.Datatype = counts Table.Datatype

      by_test : (b : Bool) → (is_empty (prefix_of text) && (prefix_id st.seen == 0)) ≡ b → Fares o H (if b then Ok (0, st) else put_text o H Table.Prefix (prefix_of text) st) (with_prefix text A)
      by_test true h = skipped (and_parts (is_empty (prefix_of text)) (prefix_id st.seen == 0) h).0
      by_test false h = text_fares Table.Prefix (prefix_of text) st A (with_prefix text A) counts refl others

  iri_fares : (text : List ℕ) (st : State) (A : Asked) → Counts o H st A → Fares o H (put_iri o H text st) (λ u. asked_by_iri u text (A u))
  unfolding put_iri with_prefix
  iri_fares text st A counts =
      then_fares o H (put_prefix o H (prefix_of text) st) (λ (p : ℕ × State). put_text o H Table.Name (name_of text) p.1 >>= λ (n : ℕ × State). Ok (ids_of st.seen p.0 n.0, with_iri (ids_of st.seen p.0 n.0) n.1))
      (with_prefix text A) (λ u. asked_by_iri u text (A u)) (prefix_fares text st A counts) grows
      (λ p behind. then_fares o H (put_text o H Table.Name (name_of text) p.1) (λ (n : ℕ × State). Ok (ids_of st.seen p.0 n.0, with_iri (ids_of st.seen p.0 n.0) n.1)) (λ u. asked_by_iri u text (A u)) (λ u. asked_by_iri u text (A u))
      (text_fares Table.Name (name_of text) p.1 (with_prefix text A) (λ u. asked_by_iri u text (A u)) behind refl others) (λ t. omega arith) (λ n c. c))
    where
      grows : (t : Table) → different (with_prefix text A t) ≤ different (asked_by_iri t text (A t))
      grows Table.Name = more_different (name_of text) (A Table.Name)
      grows Table.Prefix = omega arith
      grows Table.Datatype = omega arith

      others : (u : Table) → is_table u Table.Name ≡ false → asked_by_iri u text (A u) ≡ with_prefix text A u
      others Table.Name h = cc
      others Table.Prefix h = refl
      others Table.Datatype h = refl

  same_counts : (st : State) (A B : Asked) → Counts o H st A → ((u : Table) → B u ≡ A u) → Counts o H st B
  same_counts st A B counts same u = let e = same u in rw e (counts u)

  tail_fares : (tail : Tail) (st : State) (A : Asked) → Counts o H st A → Fares o H (put_tail o H tail st) (λ u. asked_by_tail u tail (A u))
  unfolding put_tail
  tail_fares Tail.Simple st A counts = same_counts st A (λ u. asked_by_tail u Tail.Simple (A u)) counts same
    where
      same : (u : Table) → asked_by_tail u Tail.Simple (A u) ≡ A u
      same Table.Name = refl
      same Table.Prefix = refl
      same Table.Datatype = refl
  tail_fares (Tail.Lang tag) st A counts = same_counts st A (λ u. asked_by_tail u (Tail.Lang tag) (A u)) counts same
    where
      same : (u : Table) → asked_by_tail u (Tail.Lang tag) (A u) ≡ A u
      same Table.Name = refl
      same Table.Prefix = refl
      same Table.Datatype = refl
  tail_fares (Tail.Typed iri) st A counts =
      then_fares o H (put_text o H Table.Datatype iri st) (λ (n : ℕ × State). Ok (Ending.Typed n.0, n.1)) (λ u. asked_by_tail u (Tail.Typed iri) (A u)) (λ u. asked_by_tail u (Tail.Typed iri) (A u))
      (text_fares Table.Datatype iri st A (λ u. asked_by_tail u (Tail.Typed iri) (A u)) counts refl others) (λ t. omega arith) (λ n c. c)
    where
      others : (u : Table) → is_table u Table.Datatype ≡ false → asked_by_tail u (Tail.Typed iri) (A u) ≡ A u
      others Table.Name h = refl
      others Table.Prefix h = refl
      others Table.Datatype h = cc

  grows_by_tail : (t : Table) (tail : Tail) (xs : List (List ℕ)) → different xs ≤ different (asked_by_tail t tail xs)
  grows_by_tail Table.Name tail xs = omega arith
  grows_by_tail Table.Prefix tail xs = omega arith
  grows_by_tail Table.Datatype Tail.Simple xs = omega arith
  grows_by_tail Table.Datatype (Tail.Lang tag) xs = omega arith
  grows_by_tail Table.Datatype (Tail.Typed iri) xs = more_different iri xs

  grows_by : (t : Table) (v : Value) (xs : List (List ℕ)) → different xs ≤ different (asked_by t v xs)
  grows_by Table.Name (Value.Iri text) xs = more_different (name_of text) xs
  grows_by Table.Prefix (Value.Iri text) xs = more_different (prefix_of text) xs
  grows_by Table.Datatype (Value.Iri text) xs = omega arith
  grows_by t (Value.Bnode label) xs = omega arith
  grows_by t (Value.Literal lex tail) xs = grows_by_tail t tail xs
  grows_by t (Value.Nested s p ob) xs =
      omega (arith, grows_by t s xs, grows_by t p (asked_by t s xs), grows_by t ob (asked_by t p (asked_by t s xs)))
  grows_by t Value.Default xs = omega arith

  term_fares : (v : Value) (st : State) (A : Asked) → Counts o H st A → Fares o H (put_term o H v st) (λ u. asked_by u v (A u))
  unfolding put_term
  term_fares (Value.Iri text) st A counts =
      then_fares o H (put_iri o H text st) (λ (i : Ids × State). Ok (Term.Iri i.0, i.1)) (λ u. asked_by_iri u text (A u)) (λ u. asked_by_iri u text (A u)) (iri_fares text st A counts) (λ t. omega arith) (λ n c. c)
  term_fares (Value.Bnode label) st A counts = counts
  term_fares (Value.Literal lex tail) st A counts =
      then_fares o H (put_tail o H tail st) (λ (t : Ending × State). Ok (Term.Literal lex t.0, t.1)) (λ u. asked_by_tail u tail (A u)) (λ u. asked_by_tail u tail (A u)) (tail_fares tail st A counts) (λ t. omega arith) (λ n c. c)
  term_fares (Value.Nested s p ob) st A counts =
      then_fares o H (put_term o H s st) (λ (a : Term × State). put_term o H p a.1 >>= λ (b : Term × State). put_term o H ob b.1 >>= λ (c : Term × State). Ok (Term.Nested a.0 b.0 c.0, c.1))
      (λ u. asked_by u s (A u)) (λ u. asked_by u ob (asked_by u p (asked_by u s (A u)))) (term_fares s st A counts)
      (λ t. omega (arith, grows_by t p (asked_by t s (A t)), grows_by t ob (asked_by t p (asked_by t s (A t)))))
      (λ a first. then_fares o H (put_term o H p a.1) (λ (b : Term × State). put_term o H ob b.1 >>= λ (c : Term × State). Ok (Term.Nested a.0 b.0 c.0, c.1))
      (λ u. asked_by u p (asked_by u s (A u))) (λ u. asked_by u ob (asked_by u p (asked_by u s (A u)))) (term_fares p a.1 (λ u. asked_by u s (A u)) first)
      (λ t. grows_by t ob (asked_by t p (asked_by t s (A t))))
      (λ b second. then_fares o H (put_term o H ob b.1) (λ (c : Term × State). Ok (Term.Nested a.0 b.0 c.0, c.1)) (λ u. asked_by u ob (asked_by u p (asked_by u s (A u)))) (λ u. asked_by u ob (asked_by u p (asked_by u s (A u))))
      (term_fares ob b.1 (λ u. asked_by u p (asked_by u s (A u))) second) (λ t. omega arith) (λ n c. c)))
  term_fares Value.Default st A counts = counts

  at_fares : (x : Position) (v : Value) (st : State) (A : Asked) → Counts o H st A → Fares o H (put_at o H x v st) (λ u. asked_at u x v H (A u))
  unfolding put_at
  at_fares x v st A counts = by_test (is_value v (last_term x H))
    where
      by_test : (b : Bool) → Fares o H (if b then Ok (Term.Unset, st) else put_term o H v st) (λ u. if b then A u else asked_by u v (A u))
      by_test true = counts
      by_test false = term_fares v st A counts

  grows_at : (t : Table) (x : Position) (v : Value) (xs : List (List ℕ)) → different xs ≤ different (asked_at t x v H xs)
  grows_at t x v xs = by_test (is_value v (last_term x H))
    where
      by_test : (b : Bool) → different xs ≤ different (if b then xs else asked_by t v xs)
      by_test true = omega arith
      by_test false = grows_by t v xs

  -- where the tables have room, there is an answer
  record Done {X : Type 0} (r : Result (X × State) Refusal) (A : Asked) : Type 0 where
    value : X × State
    was : r ≡ Ok value
    counts : Counts o H value.1 A

  done : {X : Type 0} (r : Result (X × State) Refusal) (A : Asked) → Fares o H r A → ((t : Table) → different (A t) ≤ size_of o t) → Done r A
  done (Ok p) A fares fits = record { value = p; was = refl; counts = fares }
  done (Err e) A fares fits = let room = fits fares.0 in let many = fares.1 in absurd (omega (arith, room, many))

  none_used : (t : Table) (xs : List ℕ) → tally (λ m. is_claimed t m []) xs ≡ 0
  none_used t [] = refl
  none_used t (x ∷ xs) = none_used t xs

  start_counts : Counts o H (start H) (λ u. [])
  start_counts t = let none = none_used t (numbers_from 1 (size_of o t)) in record { pend = false; known = λ x h free. absurd (cc); few = omega (arith, none) }

  pub record HasRows (i : Item) : Type 0 where
    pub rows : List Row
    pub are : item_rows o H i ≡ Ok rows

  triple_rows : (s p ob : Value) (a b c : Term × State) → put_at o H Position.Subject s (start H) ≡ Ok a → put_at o H Position.Predicate p a.1 ≡ Ok b → put_at o H Position.Object ob b.1 ≡ Ok c
      → item_rows o H (Item.Triple s p ob) ≡ Ok (Row.Triple a.0 b.0 c.0 ∷ c.1.entries)
  unfolding item_rows
  triple_rows s p ob a b c first second third = rw (first, second, third) refl

  quad_rows : (s p ob g : Value) (a b c d : Term × State) → put_at o H Position.Subject s (start H) ≡ Ok a → put_at o H Position.Predicate p a.1 ≡ Ok b → put_at o H Position.Object ob b.1 ≡ Ok c → put_at o H Position.Graph g c.1 ≡ Ok d
      → item_rows o H (Item.Quad s p ob g) ≡ Ok (Row.Quad a.0 b.0 c.0 d.0 ∷ d.1.entries)
  unfolding item_rows
  quad_rows s p ob g a b c d first second third fourth = rw (first, second, third, fourth) refl

  namespace_rows : (name iri : List ℕ) (i : Ids × State) → put_iri o H iri (start H) ≡ Ok i → item_rows o H (Item.Namespace name iri) ≡ Ok (Row.Namespace name (Some i.0) ∷ i.1.entries)
  unfolding item_rows
  namespace_rows name iri i put = rw put refl

  pub item_fits : (i : Item) → FitsTables o H i → HasRows i
  item_fits (Item.Triple s p ob) fits =
      let A1 : Asked = λ u. asked_at u Position.Subject s H [] in
      let A2 : Asked = λ u. asked_at u Position.Predicate p H (A1 u) in
      let A3 : Asked = λ u. asked_at u Position.Object ob H (A2 u) in
      let a = done (put_at o H Position.Subject s (start H)) A1 (at_fares Position.Subject s (start H) (λ u. []) start_counts) (λ t. let room = fits t in omega (arith, room, grows_at t Position.Predicate p (A1 t), grows_at t Position.Object ob (A2 t))) in
      let b = done (put_at o H Position.Predicate p a.value.1) A2 (at_fares Position.Predicate p a.value.1 A1 a.counts) (λ t. let room = fits t in omega (arith, room, grows_at t Position.Object ob (A2 t))) in
      let c = done (put_at o H Position.Object ob b.value.1) A3 (at_fares Position.Object ob b.value.1 A2 b.counts) fits in
      record { rows = Row.Triple a.value.0 b.value.0 c.value.0 ∷ c.value.1.entries; are = triple_rows s p ob a.value b.value c.value a.was b.was c.was }
  item_fits (Item.Quad s p ob g) fits =
      let A1 : Asked = λ u. asked_at u Position.Subject s H [] in
      let A2 : Asked = λ u. asked_at u Position.Predicate p H (A1 u) in
      let A3 : Asked = λ u. asked_at u Position.Object ob H (A2 u) in
      let A4 : Asked = λ u. asked_at u Position.Graph g H (A3 u) in
      let a = done (put_at o H Position.Subject s (start H)) A1 (at_fares Position.Subject s (start H) (λ u. []) start_counts) (λ t. let room = fits t in omega (arith, room, grows_at t Position.Predicate p (A1 t), grows_at t Position.Object ob (A2 t), grows_at t Position.Graph g (A3 t))) in
      let b = done (put_at o H Position.Predicate p a.value.1) A2 (at_fares Position.Predicate p a.value.1 A1 a.counts) (λ t. let room = fits t in omega (arith, room, grows_at t Position.Object ob (A2 t), grows_at t Position.Graph g (A3 t))) in
      let c = done (put_at o H Position.Object ob b.value.1) A3 (at_fares Position.Object ob b.value.1 A2 b.counts) (λ t. let room = fits t in omega (arith, room, grows_at t Position.Graph g (A3 t))) in
      let d = done (put_at o H Position.Graph g c.value.1) A4 (at_fares Position.Graph g c.value.1 A3 c.counts) fits in
      record { rows = Row.Quad a.value.0 b.value.0 c.value.0 d.value.0 ∷ d.value.1.entries; are = quad_rows s p ob g a.value b.value c.value d.value a.was b.was c.was d.was }
  item_fits (Item.Namespace name iri) fits =
      let i = done (put_iri o H iri (start H)) (λ u. asked_by_iri u iri []) (iri_fares iri (start H) (λ u. []) start_counts) fits in
      record { rows = Row.Namespace name (Some i.value.0) ∷ i.value.1.entries; are = namespace_rows name iri i.value i.was }
