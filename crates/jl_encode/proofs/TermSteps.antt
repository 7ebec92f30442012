-- IRIs and terms are put in step with the definition.
use Rattle.std.proofs.Common.{◌≡◌, ℕ, ◌+◌, ◌==◌, ◌&&◌, Bool, true, false, not, List, ◌∷◌, map, Option, Ok, if◌then◌else◌, refl, ap, sym, ◌∙◌, arith, append-nil}
use Rattle.jl_base.specs.Results.{◌>>=◌}
use Rattle.jl_base.specs.Terms.{Tail, Value}
use Rattle.jl_rows.specs.declared.row.Table.{Table}
use Rattle.jl_rows.specs.Written.{StreamOptions, Ids, Ending, Term}
use Rattle.jl_rows.specs.History.{History, prefix_id, name_id}
use Rattle.jl_rows.specs.Values.{Position, last_term}
use Rattle.jl_encoding.specs.Sameness.{is_value}
use Rattle.jl_encoding.specs.Splits.{prefix_of, name_of}
use Rattle.jl_encoding.specs.Slots.{State, put_text}
use Rattle.jl_encoding.specs.Terms.{is_empty, put_prefix, ids_of, with_iri, put_iri, put_tail, put_term, put_at}
use Rattle.jl_encoding.proofs.SlotLaws.{counted_given}
use Rattle.jl_encoding.proofs.TextLaws.{PutsText, puts_text}
use Rattle.jl_encoding.proofs.IriLaws.{PutsPrefix, puts_prefix}
use Rattle.jl_encode.specs.Desks.{Desk, texts_of, with_ids, with_hidden}
use Rattle.jl_encode.specs.Putting as plain
use Rattle.jl_encode.specs.Putting.{Step, at_once, then_put, ids_behind}
use Rattle.jl_encode.proofs.Along.{Stands, entry_text, GoesWith, Along, Grows, then_grows, once_along, then_along}
use Rattle.jl_encode.proofs.TextSteps.{text_along, text_grows}

hidden_texts : (b : Bool) (D : Desk) (t : Table) → texts_of t (with_hidden b D) ≡ texts_of t D
hidden_texts b D Table.Name = refl
hidden_texts b D Table.Prefix = refl
hidden_texts b D Table.Datatype = refl

ids_texts : (p n : ℕ) (D : Desk) (t : Table) → texts_of t (with_ids p n D) ≡ texts_of t D
ids_texts p n D Table.Name = refl
ids_texts p n D Table.Prefix = refl
ids_texts p n D Table.Datatype = refl

module _ (o : StreamOptions) (H : History) where
  hidden_stands : (b : Bool) (st : State) (D : Desk) → Stands o H st D → Stands o H st (with_hidden b D)
  hidden_stands b st D stands = record { tables = λ t. let e = hidden_texts b D t in rw e (stands.tables t); prefix = stands.prefix; name = stands.name }

  prefix_grows : (text : List ℕ) (st : State) → Grows st (put_prefix o H text st)
  unfolding put_prefix
  prefix_grows text st = by_test (is_empty text && (prefix_id st.seen == 0))
    where
      by_test : (b : Bool) → Grows st (if b then Ok (0, st) else put_text o H Table.Prefix text st)
      by_test true = omega arith
      by_test false = text_grows o H Table.Prefix text st

  prefix_along : (text : List ℕ) (st : State) (D : Desk) → Stands o H st D → Along o H st (plain.put_prefix text D) (put_prefix o H text st)
  unfolding put_prefix
  prefix_along text st D stands = by_tests (is_empty text && (D.prefix == 0)) (is_empty text && (prefix_id st.seen == 0)) (ap (λ (n : ℕ). is_empty text && (n == 0)) stands.prefix)
    where
      by_tests : (b c : Bool) → b ≡ c
          → Along o H st (if b then at_once 0 (with_hidden true D) else plain.put_text Table.Prefix text (with_hidden (D.hidden && not (is_empty text)) D)) (if c then Ok (0, st) else put_text o H Table.Prefix text st)
      by_tests true true same = once_along o H st (with_hidden true D) 0 0 refl (hidden_stands true st D stands)
      by_tests true false same = absurd (cc)
      by_tests false true same = absurd (cc)
      by_tests false false same = text_along o H Table.Prefix text st (with_hidden (D.hidden && not (is_empty text)) D) (hidden_stands (D.hidden && not (is_empty text)) st D stands)

  iri_grows : (text : List ℕ) (st : State) → Grows st (put_iri o H text st)
  unfolding put_iri
  iri_grows text st =
      then_grows st (put_prefix o H (prefix_of text) st) (λ (p : ℕ × State). put_text o H Table.Name (name_of text) p.1 >>= λ (n : ℕ × State). Ok (ids_of st.seen p.0 n.0, with_iri (ids_of st.seen p.0 n.0) n.1)) (prefix_grows (prefix_of text) st)
      (λ p. then_grows p.1 (put_text o H Table.Name (name_of text) p.1) (λ (n : ℕ × State). Ok (ids_of st.seen p.0 n.0, with_iri (ids_of st.seen p.0 n.0) n.1)) (text_grows o H Table.Name (name_of text) p.1) (λ n. omega arith))

  -- behind the prefix and the name: the ids as they are written
  ids_along : (text : List ℕ) (st : State) (s n : Step ℕ) (p q : ℕ × State) → PutsPrefix o H (prefix_of text) st p.1 p.0 → PutsText o H Table.Name (name_of text) p.1 q.1 q.0 → GoesWith o H st s p → GoesWith o H p.1 n q
      → Along o H q.1 (at_once (ids_behind s.answer n.answer n.desk) (with_ids s.answer n.answer n.desk)) (Ok (ids_of st.seen p.0 q.0, with_iri (ids_of st.seen p.0 q.0) q.1))
  ids_along text st s n p q prefix name first second =
      let i = ids_of st.seen p.0 q.0 in
      let seen : q.1.seen ≡ st.seen = name.seen ∙ prefix.seen in
      let at_prefix : n.desk.prefix ≡ prefix_id st.seen = second.stands.prefix ∙ ap prefix_id seen in
      let at_name : n.desk.name ≡ name_id st.seen = second.stands.name ∙ ap name_id seen in
      let next : n.desk.name + 1 ≡ name_id (record { prefix = 0; name = 0 } ∷ st.seen) = omega (arith, at_name) in
      let first_is = first.answer in
      let second_is = second.answer in
      let prefix_is : prefix_id (i ∷ st.seen) ≡ p.0 = prefix.given i.name in
      let name_is : name_id (i ∷ st.seen) ≡ q.0 = counted_given (map (λ (j : Ids). j.name) st.seen) q.0 name.some in
      let stands : Stands o H (with_iri i q.1) (with_ids s.answer n.answer n.desk) =
      record {
        tables = λ t. let e = ids_texts s.answer n.answer n.desk t in rw e (second.stands.tables t);
        prefix = first_is ∙ sym prefix_is ∙ ap (λ (ids : List Ids). prefix_id (i ∷ ids)) (sym seen);
        name = second_is ∙ sym name_is ∙ ap (λ (ids : List Ids). name_id (i ∷ ids)) (sym seen);
      } in
      let written : ids_behind s.answer n.answer n.desk ≡ i = rw (at_prefix, next, first_is, second_is) refl in
      record { answer = written; stands = stands; bytes = sym (append-nil (entry_text q.1)) }

  pub iri_along : (text : List ℕ) (st : State) (D : Desk) → Stands o H st D → Along o H st (plain.put_iri text D) (put_iri o H text st)
  unfolding put_iri
  iri_along text st D stands =
      then_along o H st (plain.put_prefix (prefix_of text) D) (put_prefix o H (prefix_of text) st)
      (λ p D1. then_put (plain.put_text Table.Name (name_of text) D1) (λ n D2. at_once (ids_behind p n D2) (with_ids p n D2)))
      (λ (p : ℕ × State). put_text o H Table.Name (name_of text) p.1 >>= λ (n : ℕ × State). Ok (ids_of st.seen p.0 n.0, with_iri (ids_of st.seen p.0 n.0) n.1))
      (prefix_along (prefix_of text) st D stands)
      (λ s p was first. then_along o H p.1 (plain.put_text Table.Name (name_of text) s.desk) (put_text o H Table.Name (name_of text) p.1)
      (λ n D2. at_once (ids_behind s.answer n D2) (with_ids s.answer n D2))
      (λ (n : ℕ × State). Ok (ids_of st.seen p.0 n.0, with_iri (ids_of st.seen p.0 n.0) n.1))
      (text_along o H Table.Name (name_of text) p.1 s.desk first.stands)
      (λ n q is second. ids_along text st s n p q (puts_prefix o H (prefix_of text) st p was) (puts_text o H Table.Name (name_of text) p.1 q is) first second)
      (λ q. omega arith))
      (λ p. then_grows p.1 (put_text o H Table.Name (name_of text) p.1) (λ (n : ℕ × State). Ok (ids_of st.seen p.0 n.0, with_iri (ids_of st.seen p.0 n.0) n.1)) (text_grows o H Table.Name (name_of text) p.1) (λ n. omega arith))

  tail_grows : (tail : Tail) (st : State) → Grows st (put_tail o H tail st)
  unfolding put_tail
  tail_grows Tail.Simple st = omega arith
  tail_grows (Tail.Lang tag) st = omega arith
  tail_grows (Tail.Typed iri) st = then_grows st (put_text o H Table.Datatype iri st) (λ (n : ℕ × State). Ok (Ending.Typed n.0, n.1)) (text_grows o H Table.Datatype iri st) (λ n. omega arith)

  tail_along : (tail : Tail) (st : State) (D : Desk) → Stands o H st D → Along o H st (plain.put_tail tail D) (put_tail o H tail st)
  unfolding put_tail
  tail_along Tail.Simple st D stands = once_along o H st D Ending.Simple Ending.Simple refl stands
  tail_along (Tail.Lang tag) st D stands = once_along o H st D (Ending.Lang tag) (Ending.Lang tag) refl stands
  tail_along (Tail.Typed iri) st D stands =
      then_along o H st (plain.put_text Table.Datatype iri D) (put_text o H Table.Datatype iri st) (λ n D1. at_once (Ending.Typed n) D1) (λ (n : ℕ × State). Ok (Ending.Typed n.0, n.1)) (text_along o H Table.Datatype iri st D stands)
      (λ s p was w. once_along o H p.1 s.desk (Ending.Typed s.answer) (Ending.Typed p.0) (ap Ending.Typed w.answer) w.stands) (λ p. omega arith)

  pub term_grows : (v : Value) (st : State) → Grows st (put_term o H v st)
  unfolding put_term
  term_grows (Value.Iri text) st = then_grows st (put_iri o H text st) (λ (i : Ids × State). Ok (Term.Iri i.0, i.1)) (iri_grows text st) (λ i. omega arith)
  term_grows (Value.Bnode label) st = omega arith
  term_grows (Value.Literal lex tail) st = then_grows st (put_tail o H tail st) (λ (e : Ending × State). Ok (Term.Literal lex e.0, e.1)) (tail_grows tail st) (λ e. omega arith)
  term_grows (Value.Nested s p ob) st =
      then_grows st (put_term o H s st) (λ (a : Term × State). put_term o H p a.1 >>= λ (b : Term × State). put_term o H ob b.1 >>= λ (c : Term × State). Ok (Term.Nested a.0 b.0 c.0, c.1)) (term_grows s st)
      (λ a. then_grows a.1 (put_term o H p a.1) (λ (b : Term × State). put_term o H ob b.1 >>= λ (c : Term × State). Ok (Term.Nested a.0 b.0 c.0, c.1)) (term_grows p a.1)
      (λ b. then_grows b.1 (put_term o H ob b.1) (λ (c : Term × State). Ok (Term.Nested a.0 b.0 c.0, c.1)) (term_grows ob b.1) (λ c. omega arith)))
  term_grows Value.Default st = omega arith

  pub term_along : (v : Value) (st : State) (D : Desk) → Stands o H st D → Along o H st (plain.put_term v D) (put_term o H v st)
  unfolding put_term
  term_along (Value.Iri text) st D stands =
      then_along o H st (plain.put_iri text D) (put_iri o H text st) (λ i D1. at_once (Term.Iri i) D1) (λ (i : Ids × State). Ok (Term.Iri i.0, i.1)) (iri_along text st D stands)
      (λ s p was w. once_along o H p.1 s.desk (Term.Iri s.answer) (Term.Iri p.0) (ap Term.Iri w.answer) w.stands) (λ p. omega arith)
  term_along (Value.Bnode label) st D stands = once_along o H st D (Term.Bnode label) (Term.Bnode label) refl stands
  term_along (Value.Literal lex tail) st D stands =
      then_along o H st (plain.put_tail tail D) (put_tail o H tail st) (λ e D1. at_once (Term.Literal lex e) D1) (λ (e : Ending × State). Ok (Term.Literal lex e.0, e.1)) (tail_along tail st D stands)
      (λ s p was w. once_along o H p.1 s.desk (Term.Literal lex s.answer) (Term.Literal lex p.0) (ap (Term.Literal lex) w.answer) w.stands) (λ p. omega arith)
  term_along (Value.Nested s p ob) st D stands =
      then_along o H st (plain.put_term s D) (put_term o H s st) (λ a D1. then_put (plain.put_term p D1) (λ b D2. then_put (plain.put_term ob D2) (λ c D3. at_once (Term.Nested a b c) D3)))
      (λ (a : Term × State). put_term o H p a.1 >>= λ (b : Term × State). put_term o H ob b.1 >>= λ (c : Term × State). Ok (Term.Nested a.0 b.0 c.0, c.1)) (term_along s st D stands)
      (λ x a was first. then_along o H a.1 (plain.put_term p x.desk) (put_term o H p a.1) (λ b D2. then_put (plain.put_term ob D2) (λ c D3. at_once (Term.Nested x.answer b c) D3))
      (λ (b : Term × State). put_term o H ob b.1 >>= λ (c : Term × State). Ok (Term.Nested a.0 b.0 c.0, c.1)) (term_along p a.1 x.desk first.stands)
      (λ y b is second. then_along o H b.1 (plain.put_term ob y.desk) (put_term o H ob b.1) (λ c D3. at_once (Term.Nested x.answer y.answer c) D3) (λ (c : Term × State). Ok (Term.Nested a.0 b.0 c.0, c.1)) (term_along ob b.1 y.desk second.stands)
      (λ z c has third. once_along o H c.1 z.desk (Term.Nested x.answer y.answer z.answer) (Term.Nested a.0 b.0 c.0) (let e = first.answer in let f = second.answer in let g = third.answer in cc) third.stands) (λ c. omega arith))
      (λ b. then_grows b.1 (put_term o H ob b.1) (λ (c : Term × State). Ok (Term.Nested a.0 b.0 c.0, c.1)) (term_grows ob b.1) (λ c. omega arith)))
      (λ a. then_grows a.1 (put_term o H p a.1) (λ (b : Term × State). put_term o H ob b.1 >>= λ (c : Term × State). Ok (Term.Nested a.0 b.0 c.0, c.1)) (term_grows p a.1)
      (λ b. then_grows b.1 (put_term o H ob b.1) (λ (c : Term × State). Ok (Term.Nested a.0 b.0 c.0, c.1)) (term_grows ob b.1) (λ c. omega arith)))
  term_along Value.Default st D stands = once_along o H st D Term.Default Term.Default refl stands

  pub at_grows : (x : Position) (v : Value) (st : State) → Grows st (put_at o H x v st)
  unfolding put_at
  at_grows x v st = by_test (is_value v (last_term x H))
    where
      by_test : (b : Bool) → Grows st (if b then Ok (Term.Unset, st) else put_term o H v st)
      by_test true = omega arith
      by_test false = term_grows v st

  -- a position, where the last term is the one that the history has
  pub at_along : (x : Position) (v : Value) (last : Option Value) (st : State) (D : Desk) → last ≡ last_term x H → Stands o H st D → Along o H st (plain.put_unless last v D) (put_at o H x v st)
  unfolding put_at
  at_along x v last st D same stands = rw same (by_test (is_value v (last_term x H)))
    where
      by_test : (b : Bool) → Along o H st (if b then at_once Term.Unset D else plain.put_term v D) (if b then Ok (Term.Unset, st) else put_term o H v st)
      by_test true = once_along o H st D Term.Unset Term.Unset refl stands
      by_test false = term_along v st D stands
