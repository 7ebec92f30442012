-- An item's own row behind its entries: as one answer, and what it leaves of the tables and ids.
use Rattle.std.proofs.Common.{◌≡◌, ℕ, List, ◌∷◌, ◌++◌, Some, Result, Ok, Err, refl, ap, sym, ◌∙◌, subst}
use Rattle.jl_base.specs.Results.{◌>>=◌}
use Rattle.jl_base.specs.Terms.{Value, Item}
use Rattle.jl_rows.specs.declared.row.Table.{Table}
use Rattle.jl_rows.specs.Written.{StreamOptions, Ids, Term, Row}
use Rattle.jl_rows.specs.History.{History, entry_id, slot, seen_in, seen_after}
use Rattle.jl_rows.specs.Values.{Position}
use Rattle.jl_rows.proofs.Binding.{bound}
use Rattle.jl_encoding.specs.Slots.{Refusal, State}
use Rattle.jl_encoding.specs.Terms.{put_iri, put_at}
use Rattle.jl_encoding.specs.Items.{start, item_rows, ItemHasTags}
use Rattle.jl_encoding.proofs.Claims.{Step, steps}
use Rattle.jl_encoding.proofs.IriLaws.{puts_iri}
use Rattle.jl_encoding.proofs.TermLaws.{PutsAt, puts_at}

-- the item's own row, and the state behind its entries
abbrev pub put_row : StreamOptions → History → Item → Result (Row × State) Refusal
put_row o H (Item.Triple s p ob) = put_at o H Position.Subject s (start H) >>= λ (a : Term × State). put_at o H Position.Predicate p a.1 >>= λ (b : Term × State). put_at o H Position.Object ob b.1 >>= λ (c : Term × State). Ok (Row.Triple a.0 b.0 c.0, c.1)
put_row o H (Item.Quad s p ob g) = put_at o H Position.Subject s (start H) >>= λ (a : Term × State). put_at o H Position.Predicate p a.1 >>= λ (b : Term × State). put_at o H Position.Object ob b.1 >>= λ (c : Term × State). put_at o H Position.Graph g c.1 >>= λ (d : Term × State). Ok (Row.Quad a.0 b.0 c.0 d.0, d.1)
put_row o H (Item.Namespace name iri) = put_iri o H iri (start H) >>= λ (i : Ids × State). Ok (Row.Namespace name (Some i.0), i.1)

abbrev pub rows_of : Row × State → List Row
rows_of r = r.0 ∷ r.1.entries

abbrev pub rows_in : Result (Row × State) Refusal → Result (List Row) Refusal
rows_in (Ok r) = Ok (rows_of r)
rows_in (Err e) = Err e

-- What a row that is no entry leaves: the slots, the ids of entries, and the IRIs behind it.
pub record Leaves (H : History) (r : Row × State) : Type 0 where
  pub slots : (t : Table) (n : ℕ) (K : History) → slot t n (r.0 ∷ K) ≡ slot t n K
  pub ids : (t : Table) (K : History) → entry_id t (r.0 ∷ K) ≡ entry_id t K
  pub seen : r.1.seen ≡ seen_in (rows_of r ++ H)

module _ (o : StreamOptions) (H : History) where
  pub rows_are : (i : Item) → item_rows o H i ≡ rows_in (put_row o H i)
  unfolding item_rows
  rows_are (Item.Triple s p ob) = by_a (put_at o H Position.Subject s (start H))
    where
      by_c : (a b : Term) (r : Result (Term × State) Refusal) → (r >>= λ (c : Term × State). Ok (Row.Triple a b c.0 ∷ c.1.entries)) ≡ rows_in (r >>= λ (c : Term × State). Ok (Row.Triple a b c.0, c.1))
      by_c a b (Ok c) = refl
      by_c a b (Err e) = refl

      by_b : (a : Term) (r : Result (Term × State) Refusal) → (r >>= λ (b : Term × State). put_at o H Position.Object ob b.1 >>= λ (c : Term × State). Ok (Row.Triple a b.0 c.0 ∷ c.1.entries))
          ≡ rows_in (r >>= λ (b : Term × State). put_at o H Position.Object ob b.1 >>= λ (c : Term × State). Ok (Row.Triple a b.0 c.0, c.1))
      by_b a (Ok b) = by_c a b.0 (put_at o H Position.Object ob b.1)
      by_b a (Err e) = refl

      by_a : (r : Result (Term × State) Refusal) → (r >>= λ (a : Term × State). put_at o H Position.Predicate p a.1 >>= λ (b : Term × State). put_at o H Position.Object ob b.1 >>= λ (c : Term × State). Ok (Row.Triple a.0 b.0 c.0 ∷ c.1.entries))
          ≡ rows_in (r >>= λ (a : Term × State). put_at o H Position.Predicate p a.1 >>= λ (b : Term × State). put_at o H Position.Object ob b.1 >>= λ (c : Term × State). Ok (Row.Triple a.0 b.0 c.0, c.1))
      by_a (Ok a) = by_b a.0 (put_at o H Position.Predicate p a.1)
      by_a (Err e) = refl
  rows_are (Item.Quad s p ob g) = by_a (put_at o H Position.Subject s (start H))
    where
      by_d : (a b c : Term) (r : Result (Term × State) Refusal) → (r >>= λ (d : Term × State). Ok (Row.Quad a b c d.0 ∷ d.1.entries)) ≡ rows_in (r >>= λ (d : Term × State). Ok (Row.Quad a b c d.0, d.1))
      by_d a b c (Ok d) = refl
      by_d a b c (Err e) = refl

      by_c : (a b : Term) (r : Result (Term × State) Refusal) → (r >>= λ (c : Term × State). put_at o H Position.Graph g c.1 >>= λ (d : Term × State). Ok (Row.Quad a b c.0 d.0 ∷ d.1.entries))
          ≡ rows_in (r >>= λ (c : Term × State). put_at o H Position.Graph g c.1 >>= λ (d : Term × State). Ok (Row.Quad a b c.0 d.0, d.1))
      by_c a b (Ok c) = by_d a b c.0 (put_at o H Position.Graph g c.1)
      by_c a b (Err e) = refl

      by_b : (a : Term) (r : Result (Term × State) Refusal) → (r >>= λ (b : Term × State). put_at o H Position.Object ob b.1 >>= λ (c : Term × State). put_at o H Position.Graph g c.1 >>= λ (d : Term × State). Ok (Row.Quad a b.0 c.0 d.0 ∷ d.1.entries))
          ≡ rows_in (r >>= λ (b : Term × State). put_at o H Position.Object ob b.1 >>= λ (c : Term × State). put_at o H Position.Graph g c.1 >>= λ (d : Term × State). Ok (Row.Quad a b.0 c.0 d.0, d.1))
      by_b a (Ok b) = by_c a b.0 (put_at o H Position.Object ob b.1)
      by_b a (Err e) = refl

      by_a : (r : Result (Term × State) Refusal)
          → (r >>= λ (a : Term × State). put_at o H Position.Predicate p a.1 >>= λ (b : Term × State). put_at o H Position.Object ob b.1 >>= λ (c : Term × State). put_at o H Position.Graph g c.1 >>= λ (d : Term × State). Ok (Row.Quad a.0 b.0 c.0 d.0 ∷ d.1.entries))
          ≡ rows_in (r >>= λ (a : Term × State). put_at o H Position.Predicate p a.1 >>= λ (b : Term × State). put_at o H Position.Object ob b.1 >>= λ (c : Term × State). put_at o H Position.Graph g c.1 >>= λ (d : Term × State). Ok (Row.Quad a.0 b.0 c.0 d.0, d.1))
      by_a (Ok a) = by_b a.0 (put_at o H Position.Predicate p a.1)
      by_a (Err e) = refl
  rows_are (Item.Namespace name iri) = by_iri (put_iri o H iri (start H))
    where
      by_iri : (r : Result (Ids × State) Refusal) → (r >>= λ (i : Ids × State). Ok (Row.Namespace name (Some i.0) ∷ i.1.entries)) ≡ rows_in (r >>= λ (i : Ids × State). Ok (Row.Namespace name (Some i.0), i.1))
      by_iri (Ok i) = refl
      by_iri (Err e) = refl

  triple_leaves : (s p ob : Value) (a b c : Term × State) → PutsAt o H Position.Subject s (start H) a.1 a.0 → PutsAt o H Position.Predicate p a.1 b.1 b.0 → PutsAt o H Position.Object ob b.1 c.1 c.0
      → (r : Row × State) → ◌≡◌ {A = Row × State} (Row.Triple a.0 b.0 c.0, c.1) r → Leaves H r
  unfolding slot seen_in
  triple_leaves s p ob a b c first second third r same =
      let all : Step o H (start H) c.1 = steps first.step (steps second.step third.step) in
      let seen_b = second.seen ∙ ap (λ (seen : List Ids). seen_after b.0 seen) first.seen in
      let seen_c = third.seen ∙ ap (λ (seen : List Ids). seen_after c.0 seen) seen_b in
      subst (λ (q : Row × State). Leaves H q) same (record { slots = λ t n K. refl; ids = λ t K. refl; seen = seen_c ∙ ap (λ (seen : List Ids). seen_after c.0 (seen_after b.0 (seen_after a.0 seen))) (sym all.ids) })

  quad_leaves : (s p ob g : Value) (a b c d : Term × State) → PutsAt o H Position.Subject s (start H) a.1 a.0 → PutsAt o H Position.Predicate p a.1 b.1 b.0 → PutsAt o H Position.Object ob b.1 c.1 c.0 → PutsAt o H Position.Graph g c.1 d.1 d.0
      → (r : Row × State) → ◌≡◌ {A = Row × State} (Row.Quad a.0 b.0 c.0 d.0, d.1) r → Leaves H r
  unfolding slot seen_in
  quad_leaves s p ob g a b c d first second third fourth r same =
      let all : Step o H (start H) d.1 = steps first.step (steps second.step (steps third.step fourth.step)) in
      let seen_b = second.seen ∙ ap (λ (seen : List Ids). seen_after b.0 seen) first.seen in
      let seen_c = third.seen ∙ ap (λ (seen : List Ids). seen_after c.0 seen) seen_b in
      let seen_d = fourth.seen ∙ ap (λ (seen : List Ids). seen_after d.0 seen) seen_c in
      subst (λ (q : Row × State). Leaves H q) same (record { slots = λ t n K. refl; ids = λ t K. refl; seen = seen_d ∙ ap (λ (seen : List Ids). seen_after d.0 (seen_after c.0 (seen_after b.0 (seen_after a.0 seen)))) (sym all.ids) })

  pub row_leaves : (i : Item) (r : Row × State) → ItemHasTags i → put_row o H i ≡ Ok r → Leaves H r
  unfolding slot seen_in
  row_leaves (Item.Triple s p ob) r tags e =
      let a = bound (put_at o H Position.Subject s (start H)) (λ (a : Term × State). put_at o H Position.Predicate p a.1 >>= λ (b : Term × State). put_at o H Position.Object ob b.1 >>= λ (c : Term × State). Ok (Row.Triple a.0 b.0 c.0, c.1)) r e in
      let b = bound (put_at o H Position.Predicate p a.value.1) (λ (b : Term × State). put_at o H Position.Object ob b.1 >>= λ (c : Term × State). Ok (Row.Triple a.value.0 b.0 c.0, c.1)) r a.then in
      let c = bound (put_at o H Position.Object ob b.value.1) (λ (c : Term × State). Ok (Row.Triple a.value.0 b.value.0 c.0, c.1)) r b.then in
      let same : ◌≡◌ {A = Row × State} (Row.Triple a.value.0 b.value.0 c.value.0, c.value.1) r = let h = c.then in cc in
      triple_leaves s p ob a.value b.value c.value (puts_at o H Position.Subject s (start H) a.value tags.0 a.was) (puts_at o H Position.Predicate p a.value.1 b.value tags.1 b.was) (puts_at o H Position.Object ob b.value.1 c.value tags.2 c.was) r same
  row_leaves (Item.Quad s p ob g) r tags e =
      let a = bound (put_at o H Position.Subject s (start H)) (λ (a : Term × State). put_at o H Position.Predicate p a.1 >>= λ (b : Term × State). put_at o H Position.Object ob b.1 >>= λ (c : Term × State). put_at o H Position.Graph g c.1 >>= λ (d : Term × State). Ok (Row.Quad a.0 b.0 c.0 d.0, d.1)) r e in
      let b = bound (put_at o H Position.Predicate p a.value.1) (λ (b : Term × State). put_at o H Position.Object ob b.1 >>= λ (c : Term × State). put_at o H Position.Graph g c.1 >>= λ (d : Term × State). Ok (Row.Quad a.value.0 b.0 c.0 d.0, d.1)) r a.then in
      let c = bound (put_at o H Position.Object ob b.value.1) (λ (c : Term × State). put_at o H Position.Graph g c.1 >>= λ (d : Term × State). Ok (Row.Quad a.value.0 b.value.0 c.0 d.0, d.1)) r b.then in
      let d = bound (put_at o H Position.Graph g c.value.1) (λ (d : Term × State). Ok (Row.Quad a.value.0 b.value.0 c.value.0 d.0, d.1)) r c.then in
      let same : ◌≡◌ {A = Row × State} (Row.Quad a.value.0 b.value.0 c.value.0 d.value.0, d.value.1) r = let h = d.then in cc in
      quad_leaves s p ob g a.value b.value c.value d.value (puts_at o H Position.Subject s (start H) a.value tags.0 a.was) (puts_at o H Position.Predicate p a.value.1 b.value tags.1 b.was) (puts_at o H Position.Object ob b.value.1 c.value tags.2 c.was) (puts_at o H Position.Graph g c.value.1 d.value tags.3 d.was) r same
  row_leaves (Item.Namespace name iri) r tags e =
      let i = bound (put_iri o H iri (start H)) (λ (i : Ids × State). Ok (Row.Namespace name (Some i.0), i.1)) r e in
      let put = puts_iri o H iri (start H) i.value i.was in
      let same : ◌≡◌ {A = Row × State} (Row.Namespace name (Some i.value.0), i.value.1) r = let h = i.then in cc in
      let made : Leaves H (Row.Namespace name (Some i.value.0), i.value.1) = record { slots = λ t n K. refl; ids = λ t K. refl; seen = put.seen ∙ ap (λ (seen : List Ids). i.value.0 ∷ seen) (sym put.step.ids) } in
      subst (λ (q : Row × State). Leaves H q) same made
