-- Along an item the desk knows whether the empty prefix is hidden, so its tables count exactly what was asked of them.
use Rattle.std.proofs.Common.{◌≡◌, ℕ, ◌==◌, ◌&&◌, Bool, true, false, not, List, [], ◌++◌, Option, Some, None, Result, Ok, if◌then◌else◌, refl, ap, sym, ◌∙◌, subst}
use Rattle.jl_base.specs.Results.{◌>>=◌}
use Rattle.jl_base.specs.Terms.{Tail, Value, Item}
use Rattle.jl_rows.specs.declared.row.Table.{Table}
use Rattle.jl_rows.specs.Written.{StreamOptions, Ids, Ending, Term, Row}
use Rattle.jl_rows.specs.History.{History}
use Rattle.jl_rows.specs.Values.{Position, last_term}
use Rattle.jl_rows.proofs.Binding.{bound}
use Rattle.jl_encoding.specs.Sameness.{is_value}
use Rattle.jl_encoding.specs.Splits.{prefix_of, name_of}
use Rattle.jl_encoding.specs.Slots.{Refusal, State}
use Rattle.jl_encoding.specs.Terms.{is_empty, put_iri, put_tail, put_term, put_at}
use Rattle.jl_encoding.specs.Items.{start}
use Rattle.jl_encoding.specs.Wide.{asked_by_iri, asked_by_tail, asked_by, asked_at, asked_by_item}
use Rattle.jl_encoding.proofs.FitLaws.{Asked}
use Rattle.jl_encoding.proofs.ExactSteps.{Exacts, hidden_behind, iri_exact, tail_exact, start_exact}
use Rattle.jl_encode.specs.Desks.{Texts, InTable, Desk, in_table, texts_of, with_texts, with_ids, with_hidden}
use Rattle.jl_encode.specs.Putting as plain
use Rattle.jl_encode.specs.Putting.{Step, Lasts, at_once, behind, then_put, on_desk, ids_behind}
use Rattle.jl_encode.specs.Standing.{Agrees}
use Rattle.jl_encode.proofs.Along.{Stands, GoesWith, Along}
use Rattle.jl_encode.proofs.TermSteps.{term_along, at_along}
use Rattle.jl_encode.proofs.RowSteps.{put_row}
use Rattle.jl_encode.proofs.ItemsInStep.{start_stands}

-- two steps, where both were put
record Put {A B : Type 0} (x : Option (Step A)) (f : A → Desk → Option (Step B)) (s : Step B) : Type 0 where
  first : Step A
  second : Step B
  was : x ≡ Some first
  on : f first.answer first.desk ≡ Some second
  desk : second.desk ≡ s.desk

put_both : {A B : Type 0} (x : Option (Step A)) (f : A → Desk → Option (Step B)) (s : Step B) → then_put x f ≡ Some s → Put x f s
put_both None f s e = absurd (cc)
put_both {B = B} (Some a) f s e = by_second (f a.answer a.desk) refl e
  where
    by_second : (y : Option (Step B)) → f a.answer a.desk ≡ y → behind a.bytes y ≡ Some s → Put (Some a) f s
    by_second None was e = absurd (cc)
    by_second (Some b) was e = let same : record { answer = b.answer; bytes = a.bytes ++ b.bytes; desk = b.desk } ≡ s = cc in record { first = a; second = b; was = refl; on = was; desk = ap (λ (z : Step B). z.desk) same }

once_desk : {A : Type 0} (x : A) (D : Desk) (s : Step A) → at_once x D ≡ Some s → D ≡ s.desk
once_desk {A = A} x D s e = let same : record { answer = x; bytes = []; desk = D } ≡ s = cc in ap (λ (z : Step A). z.desk) same

three_desks : (d e f g : Desk) → d ≡ e → e ≡ f → f ≡ g → d ≡ g
three_desks d e f g x y z = x ∙ y ∙ z

-- both answers are the ones that go along
goes_with : {A : Type 0} (o : StreamOptions) (H : History) (st : State) (x : Option (Step A)) (r : Result (A × State) Refusal) (s : Step A) (p : A × State) → Along o H st x r → x ≡ Some s → r ≡ Ok p → GoesWith o H st s p
goes_with {A = A} o H st x r s p along is was =
    let one : Along o H st (Some s) r = subst (λ (y : Option (Step A)). Along o H st y r) is along in
    subst (λ (q : Result (A × State) Refusal). Along o H st (Some s) q) was one

texts_hidden : (t : Table) (T : Texts) (D : Desk) → (with_texts t T D).hidden ≡ D.hidden
texts_hidden Table.Name T D = refl
texts_hidden Table.Prefix T D = refl
texts_hidden Table.Datatype T D = refl

text_hidden : (t : Table) (x : List ℕ) (D : Desk) (s : Step ℕ) → plain.put_text t x D ≡ Some s → s.desk.hidden ≡ D.hidden
text_hidden t x D s e = by_table (in_table D.item t x (texts_of t D)) e
  where
    by_table : (r : Option InTable) → on_desk t D r ≡ Some s → s.desk.hidden ≡ D.hidden
    by_table None e = absurd (cc)
    by_table (Some r) e = let same : record { answer = r.id; bytes = r.bytes; desk = with_texts t r.texts D } ≡ s = cc in sym (ap (λ (z : Step ℕ). z.desk.hidden) same) ∙ texts_hidden t r.texts D

prefix_hidden : (x : List ℕ) (D : Desk) (s : Step ℕ) → plain.put_prefix x D ≡ Some s → s.desk.hidden ≡ (if is_empty x && (D.prefix == 0) then true else D.hidden && not (is_empty x))
prefix_hidden x D s e = by_test (is_empty x && (D.prefix == 0)) e
  where
    by_test : (b : Bool) → (if b then at_once 0 (with_hidden true D) else plain.put_text Table.Prefix x (with_hidden (D.hidden && not (is_empty x)) D)) ≡ Some s → s.desk.hidden ≡ (if b then true else D.hidden && not (is_empty x))
    by_test true e = sym (ap (λ (E : Desk). E.hidden) (once_desk 0 (with_hidden true D) s e))
    by_test false e = text_hidden Table.Prefix x (with_hidden (D.hidden && not (is_empty x)) D) s e

iri_hidden : (text : List ℕ) (D : Desk) (s : Step Ids) → plain.put_iri text D ≡ Some s → s.desk.hidden ≡ (if is_empty (prefix_of text) && (D.prefix == 0) then true else D.hidden && not (is_empty (prefix_of text)))
iri_hidden text D s e =
    let p = put_both (plain.put_prefix (prefix_of text) D) (λ p D1. then_put (plain.put_text Table.Name (name_of text) D1) (λ n D2. at_once (ids_behind p n D2) (with_ids p n D2))) s e in
    let n = put_both (plain.put_text Table.Name (name_of text) p.first.desk) (λ n D2. at_once (ids_behind p.first.answer n D2) (with_ids p.first.answer n D2)) p.second p.on in
    let ids = once_desk (ids_behind p.first.answer n.first.answer n.first.desk) (with_ids p.first.answer n.first.answer n.first.desk) n.second n.on in
    let hidden : n.first.desk.hidden ≡ s.desk.hidden = ap (λ (E : Desk). E.hidden) (three_desks (with_ids p.first.answer n.first.answer n.first.desk) n.second.desk p.second.desk s.desk ids n.desk p.desk) in
    sym hidden ∙ text_hidden Table.Name (name_of text) p.first.desk n.first n.was ∙ prefix_hidden (prefix_of text) D p.first p.was

tail_hidden : (tail : Tail) (D : Desk) (s : Step Ending) → plain.put_tail tail D ≡ Some s → s.desk.hidden ≡ D.hidden
tail_hidden Tail.Simple D s e = sym (ap (λ (E : Desk). E.hidden) (once_desk Ending.Simple D s e))
tail_hidden (Tail.Lang tag) D s e = sym (ap (λ (E : Desk). E.hidden) (once_desk (Ending.Lang tag) D s e))
tail_hidden (Tail.Typed iri) D s e =
    let n = put_both (plain.put_text Table.Datatype iri D) (λ n D1. at_once (Ending.Typed n) D1) s e in
    let ended = once_desk (Ending.Typed n.first.answer) n.first.desk n.second n.on in
    let hidden : n.first.desk.hidden ≡ s.desk.hidden = ap (λ (E : Desk). E.hidden) (ended ∙ n.desk) in
    sym hidden ∙ text_hidden Table.Datatype iri D n.first n.was

module _ (o : StreamOptions) (H : History) where
  iri_exactly : (text : List ℕ) (A : Asked) (st : State) (D : Desk) (s : Step Ids) (r : Ids × State) → Stands o H st D → Exacts o H st D.hidden A → plain.put_iri text D ≡ Some s → put_iri o H text st ≡ Ok r
      → Exacts o H r.1 s.desk.hidden (λ u. asked_by_iri u text (A u))
  iri_exactly text A st D s r stands exact put was =
      let hidden : hidden_behind (prefix_of text) st.seen D.hidden ≡ s.desk.hidden =
      ap (λ (n : ℕ). if is_empty (prefix_of text) && (n == 0) then true else D.hidden && not (is_empty (prefix_of text))) (sym stands.prefix) ∙ sym (iri_hidden text D s put) in
      subst (λ (b : Bool). Exacts o H r.1 b (λ u. asked_by_iri u text (A u))) hidden (iri_exact o H text st D.hidden A r exact was)

  -- an answer at once keeps what holds of the desk and the state before
  kept : {A B : Type 0} (P : State → Bool → Type 0) (x : A) (y : B) (D : Desk) (st : State) (s : Step A) (r : B × State) → P st D.hidden → at_once x D ≡ Some s → ◌≡◌ {A = Result (B × State) Refusal} (Ok (y, st)) (Ok r) → P r.1 s.desk.hidden
  kept {B = B} P x y D st s r holds put was =
      let same : ◌≡◌ {A = B × State} (y, st) r = cc in
      let one : P r.1 D.hidden = subst (λ (q : B × State). P q.1 D.hidden) same holds in
      subst (λ (E : Desk). P r.1 E.hidden) (once_desk x D s put) one

  term_exactly : (v : Value) (A : Asked) (st : State) (D : Desk) (s : Step Term) (r : Term × State) → Stands o H st D → Exacts o H st D.hidden A → plain.put_term v D ≡ Some s → put_term o H v st ≡ Ok r
      → Exacts o H r.1 s.desk.hidden (λ u. asked_by u v (A u))
  unfolding put_term
  term_exactly (Value.Iri text) A st D s r stands exact put was =
      let x = put_both (plain.put_iri text D) (λ i D1. at_once (Term.Iri i) D1) s put in
      let i = bound (put_iri o H text st) (λ (i : Ids × State). Ok (Term.Iri i.0, i.1)) r was in
      let before = iri_exactly text A st D x.first i.value stands exact x.was i.was in
      let at_second = kept (λ st b. Exacts o H st b (λ u. asked_by_iri u text (A u))) (Term.Iri x.first.answer) (Term.Iri i.value.0) x.first.desk i.value.1 x.second r before x.on i.then in
      subst (λ (E : Desk). Exacts o H r.1 E.hidden (λ u. asked_by_iri u text (A u))) x.desk at_second
  term_exactly (Value.Bnode label) A st D s r stands exact put was = kept (λ st b. Exacts o H st b A) (Term.Bnode label) (Term.Bnode label) D st s r exact put was
  term_exactly (Value.Literal lex tail) A st D s r stands exact put was =
      let x = put_both (plain.put_tail tail D) (λ e D1. at_once (Term.Literal lex e) D1) s put in
      let e = bound (put_tail o H tail st) (λ (e : Ending × State). Ok (Term.Literal lex e.0, e.1)) r was in
      let all = tail_exact o H tail st D.hidden A e.value exact e.was in
      let before : Exacts o H e.value.1 x.first.desk.hidden (λ u. asked_by_tail u tail (A u)) = subst (λ (b : Bool). Exacts o H e.value.1 b (λ u. asked_by_tail u tail (A u))) (sym (tail_hidden tail D x.first x.was)) all in
      let at_second = kept (λ st b. Exacts o H st b (λ u. asked_by_tail u tail (A u))) (Term.Literal lex x.first.answer) (Term.Literal lex e.value.0) x.first.desk e.value.1 x.second r before x.on e.then in
      subst (λ (E : Desk). Exacts o H r.1 E.hidden (λ u. asked_by_tail u tail (A u))) x.desk at_second
  term_exactly (Value.Nested s p ob) A st D t r stands exact put was =
      let x = put_both (plain.put_term s D) (λ a D1. then_put (plain.put_term p D1) (λ b D2. then_put (plain.put_term ob D2) (λ c D3. at_once (Term.Nested a b c) D3))) t put in
      let y = put_both (plain.put_term p x.first.desk) (λ b D2. then_put (plain.put_term ob D2) (λ c D3. at_once (Term.Nested x.first.answer b c) D3)) x.second x.on in
      let z = put_both (plain.put_term ob y.first.desk) (λ c D3. at_once (Term.Nested x.first.answer y.first.answer c) D3) y.second y.on in
      let a = bound (put_term o H s st) (λ (a : Term × State). put_term o H p a.1 >>= λ (b : Term × State). put_term o H ob b.1 >>= λ (c : Term × State). Ok (Term.Nested a.0 b.0 c.0, c.1)) r was in
      let b = bound (put_term o H p a.value.1) (λ (b : Term × State). put_term o H ob b.1 >>= λ (c : Term × State). Ok (Term.Nested a.value.0 b.0 c.0, c.1)) r a.then in
      let c = bound (put_term o H ob b.value.1) (λ (c : Term × State). Ok (Term.Nested a.value.0 b.value.0 c.0, c.1)) r b.then in
      let first = term_exactly s A st D x.first a.value stands exact x.was a.was in
      let stands_a = (goes_with o H st (plain.put_term s D) (put_term o H s st) x.first a.value (term_along o H s st D stands) x.was a.was).stands in
      let second = term_exactly p (λ u. asked_by u s (A u)) a.value.1 x.first.desk y.first b.value stands_a first y.was b.was in
      let stands_b = (goes_with o H a.value.1 (plain.put_term p x.first.desk) (put_term o H p a.value.1) y.first b.value (term_along o H p a.value.1 x.first.desk stands_a) y.was b.was).stands in
      let third = term_exactly ob (λ u. asked_by u p (asked_by u s (A u))) b.value.1 y.first.desk z.first c.value stands_b second z.was c.was in
      nested x.first.answer y.first.answer z.first.answer a.value.0 b.value.0 c.value.0 (λ u. asked_by u ob (asked_by u p (asked_by u s (A u)))) z.first.desk c.value.1 z.second t r third z.on c.then (three_desks z.second.desk y.second.desk x.second.desk t.desk z.desk y.desk x.desk)
    where
      nested : (a b c d e f : Term) (B : Asked) (E : Desk) (st : State) (z t : Step Term) (r : Term × State) → Exacts o H st E.hidden B → at_once (Term.Nested a b c) E ≡ Some z → ◌≡◌ {A = Result (Term × State) Refusal} (Ok (Term.Nested d e f, st)) (Ok r) → z.desk ≡ t.desk → Exacts o H r.1 t.desk.hidden B
      nested a b c d e f B E st z t r holds put was same = subst (λ (E : Desk). Exacts o H r.1 E.hidden B) same (kept (λ st b. Exacts o H st b B) (Term.Nested a b c) (Term.Nested d e f) E st z r holds put was)
  term_exactly Value.Default A st D s r stands exact put was = kept (λ st b. Exacts o H st b A) Term.Default Term.Default D st s r exact put was

  at_exactly : (x : Position) (v : Value) (last : Option Value) (A : Asked) (st : State) (D : Desk) (s : Step Term) (r : Term × State) → last ≡ last_term x H → Stands o H st D → Exacts o H st D.hidden A → plain.put_unless last v D ≡ Some s → put_at o H x v st ≡ Ok r
      → Exacts o H r.1 s.desk.hidden (λ u. asked_at u x v H (A u))
  unfolding put_at
  at_exactly x v last A st D s r same stands exact put was =
      let here : (if is_value v (last_term x H) then at_once Term.Unset D else plain.put_term v D) ≡ Some s = ap (λ (l : Option Value). plain.put_unless l v D) (sym same) ∙ put in
      by_test (is_value v (last_term x H)) here was
    where
      by_test : (b : Bool) → (if b then at_once Term.Unset D else plain.put_term v D) ≡ Some s → (if b then Ok (Term.Unset, st) else put_term o H v st) ≡ Ok r → Exacts o H r.1 s.desk.hidden (λ u. if b then A u else asked_by u v (A u))
      by_test true put was = kept (λ st b. Exacts o H st b A) Term.Unset Term.Unset D st s r exact put was
      by_test false put was = term_exactly v A st D s r stands exact put was

  module _ (D : Desk) (L : Lasts) (agrees : Agrees o H D L) where
    start_is_exact : Exacts o H (start H) D.hidden (λ u. [])
    start_is_exact = let hidden = agrees.hidden in rw hidden (start_exact o H)

    at_end : {A B : Type 0} (x : A) (y : B) (E : Desk) (st : State) (z : Step A) (s : Step A) (r : B × State) (asked : Asked) → Exacts o H st E.hidden asked → at_once x E ≡ Some z → ◌≡◌ {A = Result (B × State) Refusal} (Ok (y, st)) (Ok r) → z.desk ≡ s.desk → Exacts o H r.1 s.desk.hidden asked
    at_end x y E st z s r asked holds put was same = subst (λ (E : Desk). Exacts o H r.1 E.hidden asked) same (kept (λ st b. Exacts o H st b asked) x y E st z r holds put was)

    at_stands : (x : Position) (v : Value) (last : Option Value) (st : State) (E : Desk) (s : Step Term) (r : Term × State) → last ≡ last_term x H → Stands o H st E → plain.put_unless last v E ≡ Some s → put_at o H x v st ≡ Ok r → Stands o H r.1 s.desk
    at_stands x v last st E s r same stands put was = (goes_with o H st (plain.put_unless last v E) (put_at o H x v st) s r (at_along o H x v last st E same stands) put was).stands

    -- behind an item the desk counts what was asked
    pub item_exactly : (i : Item) (s : Step Row) (r : Row × State) → plain.put_item i L D ≡ Some s → put_row o H i ≡ Ok r → Exacts o H r.1 s.desk.hidden (λ u. asked_by_item u i H)
    item_exactly (Item.Triple s p ob) t r put was =
        let x = put_both (plain.put_unless L.subject s D) (λ a D1. then_put (plain.put_unless L.predicate p D1) (λ b D2. then_put (plain.put_unless L.object ob D2) (λ c D3. at_once (Row.Triple a b c) D3))) t put in
        let y = put_both (plain.put_unless L.predicate p x.first.desk) (λ b D2. then_put (plain.put_unless L.object ob D2) (λ c D3. at_once (Row.Triple x.first.answer b c) D3)) x.second x.on in
        let z = put_both (plain.put_unless L.object ob y.first.desk) (λ c D3. at_once (Row.Triple x.first.answer y.first.answer c) D3) y.second y.on in
        let a = bound (put_at o H Position.Subject s (start H)) (λ (a : Term × State). put_at o H Position.Predicate p a.1 >>= λ (b : Term × State). put_at o H Position.Object ob b.1 >>= λ (c : Term × State). Ok (Row.Triple a.0 b.0 c.0, c.1)) r was in
        let b = bound (put_at o H Position.Predicate p a.value.1) (λ (b : Term × State). put_at o H Position.Object ob b.1 >>= λ (c : Term × State). Ok (Row.Triple a.value.0 b.0 c.0, c.1)) r a.then in
        let c = bound (put_at o H Position.Object ob b.value.1) (λ (c : Term × State). Ok (Row.Triple a.value.0 b.value.0 c.0, c.1)) r b.then in
        let stands = start_stands o H D L agrees in
        let first = at_exactly Position.Subject s L.subject (λ u. []) (start H) D x.first a.value agrees.subject stands start_is_exact x.was a.was in
        let stands_a = at_stands Position.Subject s L.subject (start H) D x.first a.value agrees.subject stands x.was a.was in
        let second = at_exactly Position.Predicate p L.predicate (λ u. asked_at u Position.Subject s H []) a.value.1 x.first.desk y.first b.value agrees.predicate stands_a first y.was b.was in
        let stands_b = at_stands Position.Predicate p L.predicate a.value.1 x.first.desk y.first b.value agrees.predicate stands_a y.was b.was in
        let third = at_exactly Position.Object ob L.object (λ u. asked_at u Position.Predicate p H (asked_at u Position.Subject s H [])) b.value.1 y.first.desk z.first c.value agrees.object stands_b second z.was c.was in
        at_end (Row.Triple x.first.answer y.first.answer z.first.answer) (Row.Triple a.value.0 b.value.0 c.value.0) z.first.desk c.value.1 z.second t r (λ u. asked_by_item u (Item.Triple s p ob) H) third z.on c.then (three_desks z.second.desk y.second.desk x.second.desk t.desk z.desk y.desk x.desk)
    item_exactly (Item.Quad s p ob g) t r put was =
        let x = put_both (plain.put_unless L.subject s D) (λ a D1. then_put (plain.put_unless L.predicate p D1) (λ b D2. then_put (plain.put_unless L.object ob D2) (λ c D3. then_put (plain.put_unless L.graph g D3) (λ d D4. at_once (Row.Quad a b c d) D4)))) t put in
        let y = put_both (plain.put_unless L.predicate p x.first.desk) (λ b D2. then_put (plain.put_unless L.object ob D2) (λ c D3. then_put (plain.put_unless L.graph g D3) (λ d D4. at_once (Row.Quad x.first.answer b c d) D4))) x.second x.on in
        let z = put_both (plain.put_unless L.object ob y.first.desk) (λ c D3. then_put (plain.put_unless L.graph g D3) (λ d D4. at_once (Row.Quad x.first.answer y.first.answer c d) D4)) y.second y.on in
        let w = put_both (plain.put_unless L.graph g z.first.desk) (λ d D4. at_once (Row.Quad x.first.answer y.first.answer z.first.answer d) D4) z.second z.on in
        let a = bound (put_at o H Position.Subject s (start H)) (λ (a : Term × State). put_at o H Position.Predicate p a.1 >>= λ (b : Term × State). put_at o H Position.Object ob b.1 >>= λ (c : Term × State). put_at o H Position.Graph g c.1 >>= λ (d : Term × State). Ok (Row.Quad a.0 b.0 c.0 d.0, d.1)) r was in
        let b = bound (put_at o H Position.Predicate p a.value.1) (λ (b : Term × State). put_at o H Position.Object ob b.1 >>= λ (c : Term × State). put_at o H Position.Graph g c.1 >>= λ (d : Term × State). Ok (Row.Quad a.value.0 b.0 c.0 d.0, d.1)) r a.then in
        let c = bound (put_at o H Position.Object ob b.value.1) (λ (c : Term × State). put_at o H Position.Graph g c.1 >>= λ (d : Term × State). Ok (Row.Quad a.value.0 b.value.0 c.0 d.0, d.1)) r b.then in
        let d = bound (put_at o H Position.Graph g c.value.1) (λ (d : Term × State). Ok (Row.Quad a.value.0 b.value.0 c.value.0 d.0, d.1)) r c.then in
        let stands = start_stands o H D L agrees in
        let first = at_exactly Position.Subject s L.subject (λ u. []) (start H) D x.first a.value agrees.subject stands start_is_exact x.was a.was in
        let stands_a = at_stands Position.Subject s L.subject (start H) D x.first a.value agrees.subject stands x.was a.was in
        let second = at_exactly Position.Predicate p L.predicate (λ u. asked_at u Position.Subject s H []) a.value.1 x.first.desk y.first b.value agrees.predicate stands_a first y.was b.was in
        let stands_b = at_stands Position.Predicate p L.predicate a.value.1 x.first.desk y.first b.value agrees.predicate stands_a y.was b.was in
        let third = at_exactly Position.Object ob L.object (λ u. asked_at u Position.Predicate p H (asked_at u Position.Subject s H [])) b.value.1 y.first.desk z.first c.value agrees.object stands_b second z.was c.was in
        let stands_c = at_stands Position.Object ob L.object b.value.1 y.first.desk z.first c.value agrees.object stands_b z.was c.was in
        let fourth = at_exactly Position.Graph g L.graph (λ u. asked_at u Position.Object ob H (asked_at u Position.Predicate p H (asked_at u Position.Subject s H []))) c.value.1 z.first.desk w.first d.value agrees.graph stands_c third w.was d.was in
        at_end (Row.Quad x.first.answer y.first.answer z.first.answer w.first.answer) (Row.Quad a.value.0 b.value.0 c.value.0 d.value.0) w.first.desk d.value.1 w.second t r (λ u. asked_by_item u (Item.Quad s p ob g) H) fourth w.on d.then (three_desks w.second.desk z.second.desk y.second.desk t.desk w.desk z.desk (three_desks y.second.desk x.second.desk t.desk t.desk y.desk x.desk refl))
    item_exactly (Item.Namespace name iri) s r put was =
        let x = put_both (plain.put_iri iri D) (λ i D1. at_once (Row.Namespace name (Some i)) D1) s put in
        let i = bound (put_iri o H iri (start H)) (λ (i : Ids × State). Ok (Row.Namespace name (Some i.0), i.1)) r was in
        let before = iri_exactly iri (λ u. []) (start H) D x.first i.value (start_stands o H D L agrees) start_is_exact x.was i.was in
        at_end (Row.Namespace name (Some x.first.answer)) (Row.Namespace name (Some i.value.0)) x.first.desk i.value.1 x.second s r (λ u. asked_by_item u (Item.Namespace name iri) H) before x.on i.then x.desk
