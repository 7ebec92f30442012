-- A term is put, and one that is the last at its position is left out.
use Rattle.std.proofs.Common.{◌≡◌, ℕ, Bool, true, false, List, Some, Result, Ok, if◌then◌else◌, refl, ap, ◌∙◌, subst}
use Rattle.jl_base.specs.Results.{◌>>=◌, some_or}
use Rattle.jl_base.specs.Terms.{Tail, Value}
use Rattle.jl_base.specs.declared.kind.Kind.{Kind}
use Rattle.jl_base.specs.declared.kind.Kind.TheVariants.{NoTerm}
use Rattle.jl_rows.specs.declared.row.Table.{Table}
use Rattle.jl_rows.specs.Written.{StreamOptions, Ids, Ending, Term}
use Rattle.jl_rows.specs.History.{History, seen_after}
use Rattle.jl_rows.specs.Values.{Position, slots_of, tail_of, value, is_unset, last_term}
use Rattle.jl_rows.proofs.Binding.{bound}
use Rattle.jl_encoding.specs.Sameness.{is_value}
use Rattle.jl_encoding.specs.Slots.{State, put_text}
use Rattle.jl_encoding.specs.Terms.{put_iri, put_tail, put_term, put_at}
use Rattle.jl_encoding.specs.Items.{HasTags}
use Rattle.jl_encoding.proofs.SameLaws.{value_is}
use Rattle.jl_encoding.proofs.Claims.{Holds, Step, no_step, steps}
use Rattle.jl_encoding.proofs.TextLaws.{puts_text}
use Rattle.jl_encoding.proofs.IriLaws.{puts_iri}

pub record PutsTail (o : StreamOptions) (H : History) (tail : Tail) (st st' : State) (e : Ending) : Type 0 where
  pub step : Step o H st st'
  pub seen : st'.seen ≡ st.seen
  pub says : (K : History) → Holds K st'.claims → tail_of (slots_of K) e ≡ Ok tail

pub record PutsTerm (o : StreamOptions) (H : History) (v : Value) (st st' : State) (t : Term) : Type 0 where
  pub step : Step o H st st'
  pub seen : st'.seen ≡ seen_after t st.seen
  pub set : is_unset t ≡ false
  pub says : (K : History) → Holds K st'.claims → value (slots_of K) st.seen t ≡ Ok v

puts_tail : (o : StreamOptions) (H : History) (lex : List ℕ) (tail : Tail) (st : State) (r : Ending × State) → HasTags (Value.Literal lex tail) → put_tail o H tail st ≡ Ok r → PutsTail o H tail st r.1 r.0
unfolding put_tail
puts_tail o H lex Tail.Simple st r tags e =
    let same : ◌≡◌ {A = Ending × State} (Ending.Simple, st) r = cc in
    subst (λ (p : Ending × State). PutsTail o H Tail.Simple st p.1 p.0) same (record { step = no_step o H st; seen = refl; says = λ K h. refl })
puts_tail o H lex (Tail.Lang tag) st r tags e =
    let same : ◌≡◌ {A = Ending × State} (Ending.Lang tag, st) r = cc in
    subst (λ (p : Ending × State). PutsTail o H (Tail.Lang tag) st p.1 p.0) same (record { step = no_step o H st; seen = refl; says = λ K h. rw tags refl })
puts_tail o H lex (Tail.Typed iri) st r tags e =
    let n = bound (put_text o H Table.Datatype iri st) (λ (n : ℕ × State). Ok (Ending.Typed n.0, n.1)) r e in
    let put = puts_text o H Table.Datatype iri st n.value n.was in
    let same : ◌≡◌ {A = Ending × State} (Ending.Typed n.value.0, n.value.1) r = let h = n.then in cc in
    subst (λ (p : Ending × State). PutsTail o H (Tail.Typed iri) st p.1 p.0) same (record { step = put.step; seen = put.seen; says = λ K h. let has = put.says K h in rw has refl })

-- three terms one after another
three_put : (o : StreamOptions) (H : History) (s p ob : Value) (st : State) (a b c : Term × State) → PutsTerm o H s st a.1 a.0 → PutsTerm o H p a.1 b.1 b.0 → PutsTerm o H ob b.1 c.1 c.0
    → PutsTerm o H (Value.Nested s p ob) st c.1 (Term.Nested a.0 b.0 c.0)
three_put o H s p ob st a b c first second third =
    let seen_b : b.1.seen ≡ seen_after b.0 (seen_after a.0 st.seen) = second.seen ∙ ap (λ (seen : List Ids). seen_after b.0 seen) first.seen in
    record {
      step = steps first.step (steps second.step third.step);
      seen = third.seen ∙ ap (λ (seen : List Ids). seen_after c.0 seen) seen_b;
      set = refl;
      says = λ K holds.
          let says_a = first.says K (second.step.keeps K (third.step.keeps K holds)) in
          let says_b : value (slots_of K) (seen_after a.0 st.seen) b.0 ≡ Ok p = subst (λ (seen : List Ids). value (slots_of K) seen b.0 ≡ Ok p) first.seen (second.says K (third.step.keeps K holds)) in
          let says_c : value (slots_of K) (seen_after b.0 (seen_after a.0 st.seen)) c.0 ≡ Ok ob = subst (λ (seen : List Ids). value (slots_of K) seen c.0 ≡ Ok ob) seen_b (third.says K holds) in
          rw (says_a, says_b, says_c) refl;
    }

pub puts_term : (o : StreamOptions) (H : History) (v : Value) (st : State) (r : Term × State) → HasTags v → put_term o H v st ≡ Ok r → PutsTerm o H v st r.1 r.0
unfolding put_term
puts_term o H (Value.Iri text) st r tags e =
    let i = bound (put_iri o H text st) (λ (i : Ids × State). Ok (Term.Iri i.0, i.1)) r e in
    let put = puts_iri o H text st i.value i.was in
    let same : ◌≡◌ {A = Term × State} (Term.Iri i.value.0, i.value.1) r = let h = i.then in cc in
    subst (λ (p : Term × State). PutsTerm o H (Value.Iri text) st p.1 p.0) same
    (record { step = put.step; seen = put.seen; set = refl; says = λ K h. let says = put.says K h in rw says refl })
puts_term o H (Value.Bnode label) st r tags e =
    let same : ◌≡◌ {A = Term × State} (Term.Bnode label, st) r = cc in
    subst (λ (p : Term × State). PutsTerm o H (Value.Bnode label) st p.1 p.0) same (record { step = no_step o H st; seen = refl; set = refl; says = λ K h. refl })
puts_term o H (Value.Literal lex tail) st r tags e =
    let t = bound (put_tail o H tail st) (λ (t : Ending × State). Ok (Term.Literal lex t.0, t.1)) r e in
    let put = puts_tail o H lex tail st t.value tags t.was in
    let same : ◌≡◌ {A = Term × State} (Term.Literal lex t.value.0, t.value.1) r = let h = t.then in cc in
    subst (λ (p : Term × State). PutsTerm o H (Value.Literal lex tail) st p.1 p.0) same
    (record { step = put.step; seen = put.seen; set = refl; says = λ K h. let says = put.says K h in rw says refl })
puts_term o H (Value.Nested s p ob) st r tags e =
    let a = bound (put_term o H s st) (λ (a : Term × State). put_term o H p a.1 >>= λ (b : Term × State). put_term o H ob b.1 >>= λ (c : Term × State). Ok (Term.Nested a.0 b.0 c.0, c.1)) r e in
    let b = bound (put_term o H p a.value.1) (λ (b : Term × State). put_term o H ob b.1 >>= λ (c : Term × State). Ok (Term.Nested a.value.0 b.0 c.0, c.1)) r a.then in
    let c = bound (put_term o H ob b.value.1) (λ (c : Term × State). Ok (Term.Nested a.value.0 b.value.0 c.0, c.1)) r b.then in
    let same : ◌≡◌ {A = Term × State} (Term.Nested a.value.0 b.value.0 c.value.0, c.value.1) r = let h = c.then in cc in
    subst (λ (q : Term × State). PutsTerm o H (Value.Nested s p ob) st q.1 q.0) same
    (three_put o H s p ob st a.value b.value c.value (puts_term o H s st a.value tags.0 a.was) (puts_term o H p a.value.1 b.value tags.1 b.was) (puts_term o H ob b.value.1 c.value tags.2 c.was))
puts_term o H Value.Default st r tags e =
    let same : ◌≡◌ {A = Term × State} (Term.Default, st) r = cc in
    subst (λ (p : Term × State). PutsTerm o H Value.Default st p.1 p.0) same (record { step = no_step o H st; seen = refl; set = refl; says = λ K h. refl })

-- a position as the decoder takes it
abbrev pub taken_at : Position → History → List Ids → Term → Result Value Kind
taken_at x K seen t = if is_unset t then some_or (last_term x K) NoTerm else value (slots_of K) seen t

pub record PutsAt (o : StreamOptions) (H : History) (x : Position) (v : Value) (st st' : State) (t : Term) : Type 0 where
  pub step : Step o H st st'
  pub seen : st'.seen ≡ seen_after t st.seen
  pub says : (K : History) → last_term x K ≡ last_term x H → Holds K st'.claims → taken_at x K st.seen t ≡ Ok v

pub puts_at : (o : StreamOptions) (H : History) (x : Position) (v : Value) (st : State) (r : Term × State) → HasTags v → put_at o H x v st ≡ Ok r → PutsAt o H x v st r.1 r.0
unfolding put_at
puts_at o H x v st r tags e = by_test (is_value v (last_term x H)) refl e
  where
    by_test : (b : Bool) → is_value v (last_term x H) ≡ b → (if b then Ok (Term.Unset, st) else put_term o H v st) ≡ Ok r → PutsAt o H x v st r.1 r.0
    by_test true h e =
        let last : last_term x H ≡ Some v = value_is v (last_term x H) h in
        let made : PutsAt o H x v st st Term.Unset = record { step = no_step o H st; seen = refl; says = λ K same holds. let here : last_term x K ≡ Some v = same ∙ last in rw here refl } in
        let same : ◌≡◌ {A = Term × State} (Term.Unset, st) r = cc in
        subst (λ (p : Term × State). PutsAt o H x v st p.1 p.0) same made
    by_test false h e =
        let put = puts_term o H v st r tags e in
        let set = put.set in
        record { step = put.step; seen = put.seen; says = λ K same holds. rw set (put.says K holds) }
