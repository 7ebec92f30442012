-- What each table was asked is counted exactly along an item's terms.
use Rattle.std.proofs.Common.{◌≡◌, ℕ, ◌+◌, ◌<◌, ◌≤◌, ◌==◌, ◌&&◌, Bool, true, false, not, List, [], ◌∷◌, ◌++◌, find, is_none, nat_lt, Option, Some, None, Ok, if◌then◌else◌, refl, ap, sym, ◌∙◌, subst, arith}
use Rattle.std.proofs.lemmas.Bool.{and_parts, not-true, le-ltb, lt-ltb, eqb-true}
use Rattle.jl_base.specs.Results.{◌>>=◌, some_or}
use Rattle.jl_base.specs.Terms.{Tail, Value, Item}
use Rattle.jl_rows.specs.declared.row.Table.{Table}
use Rattle.jl_rows.specs.Written.{StreamOptions, Ids, Ending, Term, Row}
use Rattle.jl_rows.specs.History.{History, is_table, entry_id, prefix_id}
use Rattle.jl_rows.specs.Values.{Position, last_term}
use Rattle.jl_rows.specs.Decoder.{size_of}
use Rattle.jl_rows.proofs.Binding.{bound}
use Rattle.jl_encoding.specs.Sameness.{is_value}
use Rattle.jl_encoding.specs.Splits.{prefix_of, name_of}
use Rattle.jl_encoding.specs.Slots.{Claim, Full, State, numbers_from, in_turn, holder, is_claimed, next_slot, with_claim, with_entry, used_or_new, put_text}
use Rattle.jl_encoding.specs.Terms.{is_empty, put_prefix, ids_of, with_iri, put_iri, put_tail, put_term, put_at}
use Rattle.jl_encoding.specs.Items.{start, item_rows}
use Rattle.jl_encoding.specs.Wide.{different, asked_by_iri, asked_by_tail, asked_by, asked_at, asked_by_item, is_crowded}
use Rattle.jl_encoding.proofs.SlotLaws.{IsSlot, find_passes, find_all, turn_is, some_or_ok, table_is}
use Rattle.jl_encoding.proofs.Tallies.{tally, tally_all, tally_most, tally_fewer, length_numbers, find_append_none}
use Rattle.jl_encoding.proofs.ClaimCounts.{claimed_apart}
use Rattle.jl_encoding.proofs.TextLaws.{puts_text}
use Rattle.jl_encoding.proofs.IriLaws.{puts_prefix}
use Rattle.jl_encoding.proofs.FitLaws.{Asked}
use Rattle.jl_encoding.proofs.ExactCounts.{Exact, skip_exact, found_exact, found_exact_apart, new_exact, new_exact_apart}

-- only a prefix can be hidden
abbrev pub hidden_in : Table → Bool → Bool
hidden_in Table.Prefix hidden = hidden
hidden_in Table.Name hidden = false
hidden_in Table.Datatype hidden = false

-- behind a text in a table
abbrev pub shown_by : Table → List ℕ → Bool → Bool
shown_by Table.Prefix x hidden = hidden && not (is_empty x)
shown_by Table.Name x hidden = hidden
shown_by Table.Datatype x hidden = hidden

-- behind an IRI of this prefix
abbrev pub hidden_behind : List ℕ → List Ids → Bool → Bool
hidden_behind x seen hidden = if is_empty x && (prefix_id seen == 0) then true else hidden && not (is_empty x)

abbrev pub Each : StreamOptions → History → List Claim → Bool → Asked → Type 0
Each o K cs hidden A = (t : Table) → Exact o K cs t (hidden_in t hidden) (A t)

abbrev pub NoPrefix : List Claim → Type 0
NoPrefix cs = (n : ℕ) → is_claimed Table.Prefix n cs ≡ false

-- The tables are counted exactly, and as long as no prefix id was given the item uses no prefix.
pub record Exacts (o : StreamOptions) (H : History) (st : State) (hidden : Bool) (A : Asked) : Type 0 where
  pub each : Each o (st.entries ++ H) st.claims hidden A
  pub given : prefix_id st.seen ≡ 0 → NoPrefix st.claims

shown_here : (t : Table) (x : List ℕ) (hidden : Bool) → hidden_in t (shown_by t x hidden) ≡ (hidden_in t hidden && not (is_empty x))
shown_here Table.Name x hidden = refl
shown_here Table.Prefix x hidden = refl
shown_here Table.Datatype x hidden = refl

shown_apart : (t u : Table) (x : List ℕ) (hidden : Bool) → is_table t u ≡ false → hidden_in u (shown_by t x hidden) ≡ hidden_in u hidden
shown_apart Table.Prefix Table.Prefix x hidden h = cc
shown_apart Table.Name Table.Prefix x hidden h = refl
shown_apart Table.Datatype Table.Prefix x hidden h = refl
shown_apart t Table.Name x hidden h = refl
shown_apart t Table.Datatype x hidden h = refl

is_apart : (t u : Table) → is_table t u ≡ false → is_table u t ≡ false
is_apart Table.Name Table.Name h = h
is_apart Table.Prefix Table.Prefix h = h
is_apart Table.Datatype Table.Datatype h = h
is_apart t u h = refl

-- what putting a text did
pub record TextExact (o : StreamOptions) (H : History) (t : Table) (x : List ℕ) (st st' : State) (hidden : Bool) (B : Asked) : Type 0 where
  pub each : Each o (st'.entries ++ H) st'.claims (shown_by t x hidden) B
  pub apart : (u : Table) → is_table t u ≡ false → (n : ℕ) → is_claimed u n st'.claims ≡ is_claimed u n st.claims

module _ (o : StreamOptions) (H : History) where
  module _ (t : Table) (x : List ℕ) (st : State) (hidden : Bool) (A B : Asked) (each : Each o (st.entries ++ H) st.claims hidden A) (here : B t ≡ x ∷ A t) (others : (u : Table) → is_table u t ≡ false → B u ≡ A u) where
    -- each table, by whether it is this one
    by_tables : (K : History) (cs : List Claim) → Exact o K cs t (hidden_in t hidden && not (is_empty x)) (x ∷ A t) → ((u : Table) → is_table t u ≡ false → is_table u t ≡ false → Exact o K cs u (hidden_in u hidden) (A u)) → Each o K cs (shown_by t x hidden) B
    by_tables K cs this apart u = by_table (is_table u t) refl
      where
        by_table : (b : Bool) → is_table u t ≡ b → Exact o K cs u (hidden_in u (shown_by t x hidden)) (B u)
        by_table true same =
            let shown = shown_here t x hidden in
            let made : Exact o K cs t (hidden_in t (shown_by t x hidden)) (B t) = rw (here, shown) this in
            subst (λ (v : Table). Exact o K cs v (hidden_in v (shown_by t x hidden)) (B v)) (sym (table_is u t same)) made
        by_table false other =
            let e = others u other in
            let shown = shown_apart t u x hidden (is_apart u t other) in
            rw (e, shown) (apart u (is_apart u t other) other)

    found_text : (n : ℕ) → holder o t x (st.entries ++ H) ≡ Some n → TextExact o H t x st (with_claim t n x st) hidden B
    found_text n held = record {
      each = by_tables (st.entries ++ H) (with_claim t n x st).claims (found_exact t n x st.claims o (st.entries ++ H) (hidden_in t hidden) (A t) held (each t))
          (λ u apart other. found_exact_apart t n x st.claims o (st.entries ++ H) u (hidden_in u hidden) (A u) apart (each u));
      apart = λ u apart m. claimed_apart t n x st.claims u apart m;
    }

    new_text : (n : ℕ) → holder o t x (st.entries ++ H) ≡ None → 0 < n → n ≤ size_of o t → is_claimed t n st.claims ≡ false → TextExact o H t x st (with_claim t n x (with_entry H t n x st)) hidden B
    new_text n none some fits free = record {
      each = by_tables ((with_entry H t n x st).entries ++ H) (with_claim t n x st).claims (new_exact t n x st.claims o (st.entries ++ H) some (hidden_in t hidden) (A t) fits none free (each t))
          (λ u apart other. new_exact_apart t n x st.claims o (st.entries ++ H) some u (hidden_in u hidden) (A u) apart other (each u));
      apart = λ u apart m. claimed_apart t n x st.claims u apart m;
    }

    by_holder : (held : Option ℕ) (r : ℕ × State) → holder o t x (st.entries ++ H) ≡ held → used_or_new o H t x st held ≡ Ok r → TextExact o H t x st r.1 hidden B
    by_holder (Some n) r has e =
        let same : ◌≡◌ {A = ℕ × State} (n, with_claim t n x st) r = cc in
        subst (λ (p : ℕ × State). TextExact o H t x st p.1 hidden B) same (found_text n has)
    by_holder None r has e =
        let b = bound (next_slot o t st.claims (st.entries ++ H)) (λ (n : ℕ). Ok (n, with_claim t n x (with_entry H t n x st))) r e in
        let same : ◌≡◌ {A = ℕ × State} (b.value, with_claim t b.value x (with_entry H t b.value x st)) r = let h = b.then in cc in
        let slot = next_is (size_of o t) (entry_id t (st.entries ++ H)) b.value b.was in
        subst (λ (p : ℕ × State). TextExact o H t x st p.1 hidden B) same (new_text b.value has slot.0.0 slot.0.1 slot.1)
      where
        next_is : (size last n : ℕ) → some_or (find (λ n. not (is_claimed t n st.claims)) (in_turn size last)) Full ≡ Ok n → IsSlot size n × (is_claimed t n st.claims ≡ false)
        next_is size last n e =
            let free = λ (n : ℕ). not (is_claimed t n st.claims) in
            let found : find free (in_turn size last) ≡ Some n = some_or_ok (find free (in_turn size last)) Full n e in
            (find_all (IsSlot size) free (in_turn size last) n (turn_is size last) found, not-true (is_claimed t n st.claims) (find_passes free (in_turn size last) n found))

    pub text_exact : (r : ℕ × State) → put_text o H t x st ≡ Ok r → TextExact o H t x st r.1 hidden B
    unfolding put_text
    text_exact r e = by_holder (holder o t x (st.entries ++ H)) r refl e

  -- what is asked behind the prefix of an IRI
  with_prefix : List ℕ → Asked → Asked
  with_prefix text A Table.Prefix = prefix_of text ∷ A Table.Prefix
  with_prefix text A Table.Name = A Table.Name
  with_prefix text A Table.Datatype = A Table.Datatype

  -- what putting a prefix did
  record PrefixExact (st st' : State) (p : ℕ) (hidden : Bool) (B : Asked) : Type 0 where
    each : Each o (st'.entries ++ H) st'.claims hidden B
    given : p ≡ 0 → NoPrefix st'.claims

  prefix_exact : (text : List ℕ) (st : State) (hidden : Bool) (A : Asked) (r : ℕ × State) → Exacts o H st hidden A → put_prefix o H (prefix_of text) st ≡ Ok r → PrefixExact st r.1 r.0 (hidden_behind (prefix_of text) st.seen hidden) (with_prefix text A)
  unfolding put_prefix with_prefix
  prefix_exact text st hidden A r all e = by_test (is_empty (prefix_of text) && (prefix_id st.seen == 0)) refl e
    where
      others : (u : Table) → is_table u Table.Prefix ≡ false → with_prefix text A u ≡ A u
      others Table.Name h = refl
      others Table.Prefix h = cc
      others Table.Datatype h = refl

      skipped : is_empty (prefix_of text) ≡ true → NoPrefix st.claims → Each o (st.entries ++ H) st.claims true (with_prefix text A)
      skipped empty none Table.Name = all.each Table.Name
      skipped empty none Table.Prefix = skip_exact o Table.Prefix (prefix_of text) (A Table.Prefix) (st.entries ++ H) (st.entries ++ H) st.claims st.claims hidden (all.each Table.Prefix) empty none
      skipped empty none Table.Datatype = all.each Table.Datatype

      by_test : (b : Bool) → (is_empty (prefix_of text) && (prefix_id st.seen == 0)) ≡ b → (if b then Ok (0, st) else put_text o H Table.Prefix (prefix_of text) st) ≡ Ok r
          → PrefixExact st r.1 r.0 (if b then true else hidden && not (is_empty (prefix_of text))) (with_prefix text A)
      by_test true h e =
          let parts = and_parts (is_empty (prefix_of text)) (prefix_id st.seen == 0) h in
          let none : NoPrefix st.claims = all.given (eqb-true (prefix_id st.seen) 0 parts.1) in
          let made : PrefixExact st st 0 true (with_prefix text A) = record { each = skipped parts.0 none; given = λ zero. none } in
          let same : ◌≡◌ {A = ℕ × State} (0, st) r = cc in
          subst (λ (p : ℕ × State). PrefixExact st p.1 p.0 true (with_prefix text A)) same made
      by_test false h e =
          let put = puts_text o H Table.Prefix (prefix_of text) st r e in
          let some = put.some in
          let exact = text_exact Table.Prefix (prefix_of text) st hidden A (with_prefix text A) all.each refl others r e in
          record { each = exact.each; given = λ zero. absurd (omega (arith, zero, some)) }

  pub iri_exact : (text : List ℕ) (st : State) (hidden : Bool) (A : Asked) (r : Ids × State) → Exacts o H st hidden A → put_iri o H text st ≡ Ok r → Exacts o H r.1 (hidden_behind (prefix_of text) st.seen hidden) (λ u. asked_by_iri u text (A u))
  unfolding put_iri with_prefix
  iri_exact text st hidden A r all e =
      let after = hidden_behind (prefix_of text) st.seen hidden in
      let p = bound (put_prefix o H (prefix_of text) st) (λ (p : ℕ × State). put_text o H Table.Name (name_of text) p.1 >>= λ (n : ℕ × State). Ok (ids_of st.seen p.0 n.0, with_iri (ids_of st.seen p.0 n.0) n.1)) r e in
      let n = bound (put_text o H Table.Name (name_of text) p.value.1) (λ (n : ℕ × State). Ok (ids_of st.seen p.value.0 n.0, with_iri (ids_of st.seen p.value.0 n.0) n.1)) r p.then in
      let same : ◌≡◌ {A = Ids × State} (ids_of st.seen p.value.0 n.value.0, with_iri (ids_of st.seen p.value.0 n.value.0) n.value.1) r = let h = n.then in cc in
      let prefix = prefix_exact text st hidden A p.value all p.was in
      let name = text_exact Table.Name (name_of text) p.value.1 after (with_prefix text A) (λ u. asked_by_iri u text (A u)) prefix.each refl others n.value n.was in
      let puts = puts_prefix o H (prefix_of text) st p.value p.was in
      let named = puts_text o H Table.Name (name_of text) p.value.1 n.value n.was in
      let i = ids_of st.seen p.value.0 n.value.0 in
      let seen : i ∷ n.value.1.seen ≡ i ∷ st.seen = ap (λ (seen : List Ids). i ∷ seen) (named.seen ∙ puts.seen) in
      let id : prefix_id (i ∷ n.value.1.seen) ≡ p.value.0 = ap prefix_id seen ∙ puts.given i.name in
      let made : Exacts o H (with_iri i n.value.1) after (λ u. asked_by_iri u text (A u)) =
      record { each = name.each; given = λ zero m. name.apart Table.Prefix refl m ∙ prefix.given (sym id ∙ zero) m } in
      subst (λ (q : Ids × State). Exacts o H q.1 after (λ u. asked_by_iri u text (A u))) same made
    where
      others : (u : Table) → is_table u Table.Name ≡ false → asked_by_iri u text (A u) ≡ with_prefix text A u
      others Table.Name h = cc
      others Table.Prefix h = refl
      others Table.Datatype h = refl

  same_exact : (st : State) (hidden : Bool) (A B : Asked) → Exacts o H st hidden A → ((u : Table) → B u ≡ A u) → Exacts o H st hidden B
  same_exact st hidden A B all same = record { each = λ u. let e = same u in rw e (all.each u); given = all.given }

  pub tail_exact : (tail : Tail) (st : State) (hidden : Bool) (A : Asked) (r : Ending × State) → Exacts o H st hidden A → put_tail o H tail st ≡ Ok r → Exacts o H r.1 hidden (λ u. asked_by_tail u tail (A u))
  unfolding put_tail
  tail_exact Tail.Simple st hidden A r all e =
      let same : ◌≡◌ {A = Ending × State} (Ending.Simple, st) r = cc in
      subst (λ (p : Ending × State). Exacts o H p.1 hidden (λ u. asked_by_tail u Tail.Simple (A u))) same (same_exact st hidden A (λ u. asked_by_tail u Tail.Simple (A u)) all none)
    where
      none : (u : Table) → asked_by_tail u Tail.Simple (A u) ≡ A u
      none Table.Name = refl
      none Table.Prefix = refl
      none Table.Datatype = refl
  tail_exact (Tail.Lang tag) st hidden A r all e =
      let same : ◌≡◌ {A = Ending × State} (Ending.Lang tag, st) r = cc in
      subst (λ (p : Ending × State). Exacts o H p.1 hidden (λ u. asked_by_tail u (Tail.Lang tag) (A u))) same (same_exact st hidden A (λ u. asked_by_tail u (Tail.Lang tag) (A u)) all none)
    where
      none : (u : Table) → asked_by_tail u (Tail.Lang tag) (A u) ≡ A u
      none Table.Name = refl
      none Table.Prefix = refl
      none Table.Datatype = refl
  tail_exact (Tail.Typed iri) st hidden A r all e =
      let n = bound (put_text o H Table.Datatype iri st) (λ (n : ℕ × State). Ok (Ending.Typed n.0, n.1)) r e in
      let same : ◌≡◌ {A = Ending × State} (Ending.Typed n.value.0, n.value.1) r = let h = n.then in cc in
      let exact = text_exact Table.Datatype iri st hidden A (λ u. asked_by_tail u (Tail.Typed iri) (A u)) all.each refl others n.value n.was in
      let put = puts_text o H Table.Datatype iri st n.value n.was in
      let made : Exacts o H n.value.1 hidden (λ u. asked_by_tail u (Tail.Typed iri) (A u)) =
      record { each = exact.each; given = λ zero m. exact.apart Table.Prefix refl m ∙ all.given (ap prefix_id (sym put.seen) ∙ zero) m } in
      subst (λ (p : Ending × State). Exacts o H p.1 hidden (λ u. asked_by_tail u (Tail.Typed iri) (A u))) same made
    where
      others : (u : Table) → is_table u Table.Datatype ≡ false → asked_by_tail u (Tail.Typed iri) (A u) ≡ A u
      others Table.Name h = refl
      others Table.Prefix h = refl
      others Table.Datatype h = cc

  -- behind an answer: the empty prefix is hidden, or it isn't
  pub record Behind (st : State) (A : Asked) : Type 0 where
    pub hidden : Bool
    pub exact : Exacts o H st hidden A

  pub term_exact : (v : Value) (st : State) (A : Asked) (r : Term × State) → Behind st A → put_term o H v st ≡ Ok r → Behind r.1 (λ u. asked_by u v (A u))
  unfolding put_term
  term_exact (Value.Iri text) st A r all e =
      let i = bound (put_iri o H text st) (λ (i : Ids × State). Ok (Term.Iri i.0, i.1)) r e in
      let same : ◌≡◌ {A = Term × State} (Term.Iri i.value.0, i.value.1) r = let h = i.then in cc in
      let made : Behind i.value.1 (λ u. asked_by_iri u text (A u)) = record { hidden = hidden_behind (prefix_of text) st.seen all.hidden; exact = iri_exact text st all.hidden A i.value all.exact i.was } in
      subst (λ (p : Term × State). Behind p.1 (λ u. asked_by_iri u text (A u))) same made
  term_exact (Value.Bnode label) st A r all e =
      let same : ◌≡◌ {A = Term × State} (Term.Bnode label, st) r = cc in
      subst (λ (p : Term × State). Behind p.1 A) same all
  term_exact (Value.Literal lex tail) st A r all e =
      let t = bound (put_tail o H tail st) (λ (t : Ending × State). Ok (Term.Literal lex t.0, t.1)) r e in
      let same : ◌≡◌ {A = Term × State} (Term.Literal lex t.value.0, t.value.1) r = let h = t.then in cc in
      let made : Behind t.value.1 (λ u. asked_by_tail u tail (A u)) = record { hidden = all.hidden; exact = tail_exact tail st all.hidden A t.value all.exact t.was } in
      subst (λ (p : Term × State). Behind p.1 (λ u. asked_by_tail u tail (A u))) same made
  term_exact (Value.Nested s p ob) st A r all e =
      let a = bound (put_term o H s st) (λ (a : Term × State). put_term o H p a.1 >>= λ (b : Term × State). put_term o H ob b.1 >>= λ (c : Term × State). Ok (Term.Nested a.0 b.0 c.0, c.1)) r e in
      let b = bound (put_term o H p a.value.1) (λ (b : Term × State). put_term o H ob b.1 >>= λ (c : Term × State). Ok (Term.Nested a.value.0 b.0 c.0, c.1)) r a.then in
      let c = bound (put_term o H ob b.value.1) (λ (c : Term × State). Ok (Term.Nested a.value.0 b.value.0 c.0, c.1)) r b.then in
      let same : ◌≡◌ {A = Term × State} (Term.Nested a.value.0 b.value.0 c.value.0, c.value.1) r = let h = c.then in cc in
      let first = term_exact s st A a.value all a.was in
      let second = term_exact p a.value.1 (λ u. asked_by u s (A u)) b.value first b.was in
      let third = term_exact ob b.value.1 (λ u. asked_by u p (asked_by u s (A u))) c.value second c.was in
      subst (λ (q : Term × State). Behind q.1 (λ u. asked_by u ob (asked_by u p (asked_by u s (A u))))) same third
  term_exact Value.Default st A r all e =
      let same : ◌≡◌ {A = Term × State} (Term.Default, st) r = cc in
      subst (λ (p : Term × State). Behind p.1 A) same all

  pub at_exact : (x : Position) (v : Value) (st : State) (A : Asked) (r : Term × State) → Behind st A → put_at o H x v st ≡ Ok r → Behind r.1 (λ u. asked_at u x v H (A u))
  unfolding put_at
  at_exact x v st A r all e = by_test (is_value v (last_term x H)) e
    where
      by_test : (b : Bool) → (if b then Ok (Term.Unset, st) else put_term o H v st) ≡ Ok r → Behind r.1 (λ u. if b then A u else asked_by u v (A u))
      by_test true e =
          let same : ◌≡◌ {A = Term × State} (Term.Unset, st) r = cc in
          subst (λ (p : Term × State). Behind p.1 A) same all
      by_test false e = term_exact v st A r all e

  none_used : (t : Table) (xs : List ℕ) → tally (λ m. is_claimed t m []) xs ≡ 0
  none_used t [] = refl
  none_used t (x ∷ xs) = none_used t xs

  -- before an item nothing was asked
  pub start_exact : Exacts o H (start H) false (λ u. [])
  start_exact = record { each = each; given = λ zero n. refl }
    where
      nothing : (t : Table) → Exact o H [] t false []
      nothing t =
          let none = none_used t (numbers_from 1 (size_of o t)) in
          record { known = λ x h free. absurd (cc); texts = λ n y claimed h. absurd (cc); there = λ no. absurd (cc); alone = λ no. absurd (cc); count = omega (arith, none) }

      each : Each o H [] false (λ u. [])
      each Table.Name = nothing Table.Name
      each Table.Prefix = nothing Table.Prefix
      each Table.Datatype = nothing Table.Datatype

  -- the state behind an item's terms
  pub record ItemBehind (i : Item) (rs : List Row) : Type 0 where
    pub state : State
    pub own : Row
    pub rows : rs ≡ own ∷ state.entries
    pub behind : Behind state (λ u. asked_by_item u i H)

  pub item_exact : (i : Item) (rs : List Row) → item_rows o H i ≡ Ok rs → ItemBehind i rs
  unfolding item_rows
  item_exact (Item.Triple s p ob) rs e =
      let a = bound (put_at o H Position.Subject s (start H)) (λ (a : Term × State). put_at o H Position.Predicate p a.1 >>= λ (b : Term × State). put_at o H Position.Object ob b.1 >>= λ (c : Term × State). Ok (Row.Triple a.0 b.0 c.0 ∷ c.1.entries)) rs e in
      let b = bound (put_at o H Position.Predicate p a.value.1) (λ (b : Term × State). put_at o H Position.Object ob b.1 >>= λ (c : Term × State). Ok (Row.Triple a.value.0 b.0 c.0 ∷ c.1.entries)) rs a.then in
      let c = bound (put_at o H Position.Object ob b.value.1) (λ (c : Term × State). Ok (Row.Triple a.value.0 b.value.0 c.0 ∷ c.1.entries)) rs b.then in
      let A1 : Asked = λ u. asked_at u Position.Subject s H [] in
      let A2 : Asked = λ u. asked_at u Position.Predicate p H (A1 u) in
      let first = at_exact Position.Subject s (start H) (λ u. []) a.value (record { hidden = false; exact = start_exact }) a.was in
      let second = at_exact Position.Predicate p a.value.1 A1 b.value first b.was in
      let same : rs ≡ Row.Triple a.value.0 b.value.0 c.value.0 ∷ c.value.1.entries = let h = c.then in cc in
      record { state = c.value.1; own = Row.Triple a.value.0 b.value.0 c.value.0; rows = same; behind = at_exact Position.Object ob b.value.1 A2 c.value second c.was }
  item_exact (Item.Quad s p ob g) rs e =
      let a = bound (put_at o H Position.Subject s (start H)) (λ (a : Term × State). put_at o H Position.Predicate p a.1 >>= λ (b : Term × State). put_at o H Position.Object ob b.1 >>= λ (c : Term × State). put_at o H Position.Graph g c.1 >>= λ (d : Term × State). Ok (Row.Quad a.0 b.0 c.0 d.0 ∷ d.1.entries)) rs e in
      let b = bound (put_at o H Position.Predicate p a.value.1) (λ (b : Term × State). put_at o H Position.Object ob b.1 >>= λ (c : Term × State). put_at o H Position.Graph g c.1 >>= λ (d : Term × State). Ok (Row.Quad a.value.0 b.0 c.0 d.0 ∷ d.1.entries)) rs a.then in
      let c = bound (put_at o H Position.Object ob b.value.1) (λ (c : Term × State). put_at o H Position.Graph g c.1 >>= λ (d : Term × State). Ok (Row.Quad a.value.0 b.value.0 c.0 d.0 ∷ d.1.entries)) rs b.then in
      let d = bound (put_at o H Position.Graph g c.value.1) (λ (d : Term × State). Ok (Row.Quad a.value.0 b.value.0 c.value.0 d.0 ∷ d.1.entries)) rs c.then in
      let A1 : Asked = λ u. asked_at u Position.Subject s H [] in
      let A2 : Asked = λ u. asked_at u Position.Predicate p H (A1 u) in
      let A3 : Asked = λ u. asked_at u Position.Object ob H (A2 u) in
      let first = at_exact Position.Subject s (start H) (λ u. []) a.value (record { hidden = false; exact = start_exact }) a.was in
      let second = at_exact Position.Predicate p a.value.1 A1 b.value first b.was in
      let third = at_exact Position.Object ob b.value.1 A2 c.value second c.was in
      let same : rs ≡ Row.Quad a.value.0 b.value.0 c.value.0 d.value.0 ∷ d.value.1.entries = let h = d.then in cc in
      record { state = d.value.1; own = Row.Quad a.value.0 b.value.0 c.value.0 d.value.0; rows = same; behind = at_exact Position.Graph g c.value.1 A3 d.value third d.was }
  item_exact (Item.Namespace name iri) rs e =
      let i = bound (put_iri o H iri (start H)) (λ (i : Ids × State). Ok (Row.Namespace name (Some i.0) ∷ i.1.entries)) rs e in
      let same : rs ≡ Row.Namespace name (Some i.value.0) ∷ i.value.1.entries = let h = i.then in cc in
      record { state = i.value.1; own = Row.Namespace name (Some i.value.0); rows = same; behind = record { hidden = hidden_behind (prefix_of iri) (start H).seen false; exact = iri_exact iri (start H) false (λ u. []) i.value start_exact i.was } }

  -- a table is asked for too many texts exactly where all its slots are used and the empty text is hidden
  pub crowd : (K : History) (cs : List Claim) (t : Table) (hidden : Bool) (xs : List (List ℕ)) (last : ℕ) → Exact o K cs t hidden xs
      → nat_lt (size_of o t) (different xs) ≡ (hidden && is_none (find (λ n. not (is_claimed t n cs)) (in_turn (size_of o t) last)))
  crowd K cs t false xs last e =
      let most = tally_most (λ m. is_claimed t m cs) 1 (size_of o t) in
      let count = e.count in
      le-ltb (size_of o t) (different xs) (omega (arith, most, count))
  crowd K cs t true xs last e = by_found (find (λ n. not (is_claimed t n cs)) (in_turn (size_of o t) last)) refl
    where
      by_found : (f : Option ℕ) → find (λ n. not (is_claimed t n cs)) (in_turn (size_of o t) last) ≡ f → nat_lt (size_of o t) (different xs) ≡ is_none f
      by_found None found =
          let all = tally_all (λ n. is_claimed t n cs) (numbers_from 1 (size_of o t)) (find_append_none (λ n. not (is_claimed t n cs)) (numbers_from (last + 1) _) (numbers_from 1 (size_of o t)) found) ∙ length_numbers 1 (size_of o t) in
          let count = e.count in
          lt-ltb (size_of o t) (different xs) (omega (arith, all, count))
      by_found (Some n) found =
          let free = λ (n : ℕ). not (is_claimed t n cs) in
          let is : IsSlot (size_of o t) n = find_all (IsSlot (size_of o t)) free (in_turn (size_of o t) last) n (turn_is (size_of o t) last) found in
          let unused : is_claimed t n cs ≡ false = not-true (is_claimed t n cs) (find_passes free (in_turn (size_of o t) last) n found) in
          let fewer = tally_fewer (λ m. is_claimed t m cs) n 1 (size_of o t) unused is.0 (omega (arith, is.1)) in
          let count = e.count in
          le-ltb (size_of o t) (different xs) (omega (arith, fewer, count))

  -- Of names and datatypes an item with rows doesn't ask too many. Of prefixes it does exactly where it uses all slots and the
  -- empty prefix is hidden.
  pub record Crowds (i : Item) (st : State) (hidden : Bool) : Type 0 where
    pub names : is_crowded o H i Table.Name ≡ false
    pub datatypes : is_crowded o H i Table.Datatype ≡ false
    pub prefixes : is_crowded o H i Table.Prefix ≡ (hidden && is_none (find (λ n. not (is_claimed Table.Prefix n st.claims)) (in_turn (size_of o Table.Prefix) (entry_id Table.Prefix (st.entries ++ H)))))

  pub crowds : (i : Item) (st : State) (hidden : Bool) → Exacts o H st hidden (λ u. asked_by_item u i H) → Crowds i st hidden
  crowds i st hidden all =
      let K = st.entries ++ H in
      record {
        names = crowd K st.claims Table.Name false (asked_by_item Table.Name i H) 0 (all.each Table.Name);
        datatypes = crowd K st.claims Table.Datatype false (asked_by_item Table.Datatype i H) 0 (all.each Table.Datatype);
        prefixes = crowd K st.claims Table.Prefix hidden (asked_by_item Table.Prefix i H) (entry_id Table.Prefix K) (all.each Table.Prefix);
      }
