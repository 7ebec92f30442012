-- Items are put in step with their rows.
use Rattle.std.proofs.Common.{◌≡◌, ℕ, ◌+◌, ◌<◌, false, List, [], ◌∷◌, ◌++◌, reverse, slice_get, Option, Some, None, Result, Ok, Err, refl, ap, sym, ◌∙◌, subst, arith}
use Rattle.std.specs.Option.{option_or}
use Rattle.std.proofs.lemmas.Bool.{ne_eqb}
use Rattle.jl_base.specs.Results.{◌>>=◌}
use Rattle.jl_base.specs.Terms.{Item}
use Rattle.jl_rows.specs.declared.row.Table.{Table}
use Rattle.jl_rows.specs.Written.{StreamOptions, Ids, Term, Row}
use Rattle.jl_rows.specs.History.{History, prefix_id, name_id}
use Rattle.jl_rows.specs.Values.{Position, last_term}
use Rattle.jl_spell.specs.Frames.{body_of}
use Rattle.jl_encoding.specs.Slots.{Refusal, State}
use Rattle.jl_encoding.specs.Terms.{put_iri, put_at}
use Rattle.jl_encoding.specs.Items.{start, item_rows, ItemHasTags, term_of}
use Rattle.jl_encoding.proofs.ItemLaws.{last_terms}
use Rattle.jl_encode.specs.Desks.{Texts, Desk, texts_of, is_mark, is_used, for_next}
use Rattle.jl_encode.specs.Putting as plain
use Rattle.jl_encode.specs.Putting.{Step, Lasts, at_once, then_put, lasts_behind, item_bytes}
use Rattle.jl_encode.specs.Standing.{TableAgrees, Agrees}
use Rattle.jl_encode.specs.InStep.{GivesRows, StepsAreRows}
use Rattle.jl_encode.proofs.TableSteps.{TableStands}
use Rattle.jl_encode.proofs.Along.{Stands, GoesWith, Along, Grows, body_behind, then_grows, once_along, then_along}
use Rattle.jl_encode.proofs.TermSteps.{iri_along, at_along, at_grows}
use Rattle.jl_encode.proofs.NumberSteps.{Keeps, item_keeps}
use Rattle.jl_encode.proofs.RowSteps.{put_row, rows_of, rows_in, rows_are, Leaves, row_leaves}

-- no item before used a slot by this number
unused : (T : Texts) (item k : ℕ) → ((k mark : ℕ) → slice_get T.marks k ≡ Some mark → mark < item) → is_used item k T ≡ false
unused T item k older = by_mark (slice_get T.marks k) refl
  where
    by_mark : (m : Option ℕ) → slice_get T.marks k ≡ m → is_mark item m ≡ false
    by_mark None e = refl
    by_mark (Some mark) e = ne_eqb mark item (λ same. let below = older k mark e in omega (arith, below, same))

pub start_stands : (o : StreamOptions) (H : History) (D : Desk) (L : Lasts) → Agrees o H D L → Stands o H (start H) D
start_stands o H D L agrees = record { tables = each; prefix = agrees.prefix; name = agrees.name }
  where
    each : (t : Table) → TableStands o H [] t D.item (texts_of t D)
    each t =
        let A = agrees.tables t in
        record {
          agrees = record {
            size = A.size;
            slots = A.slots;
            last = A.last;
            held_fit = A.held_fit;
            last_fits = A.last_fits;
            filling = A.filling;
            marked = A.marked;
            older = λ k mark e. let below = A.older k mark e in omega (arith, below);
          };
          claimed = λ k. sym (unused (texts_of t D) D.item k A.older);
          held = λ k h. let none = unused (texts_of t D) D.item k A.older in absurd (cc);
        }

next_texts : (D : Desk) (t : Table) → texts_of t (for_next D) ≡ texts_of t D
next_texts D Table.Name = refl
next_texts D Table.Prefix = refl
next_texts D Table.Datatype = refl

module _ (o : StreamOptions) (H : History) (D : Desk) (L : Lasts) (agrees : Agrees o H D L) where
  pub row_along : (i : Item) → Along o H (start H) (plain.put_item i L D) (put_row o H i)
  row_along (Item.Triple s p ob) =
      then_along o H (start H) (plain.put_unless L.subject s D) (put_at o H Position.Subject s (start H))
      (λ a D1. then_put (plain.put_unless L.predicate p D1) (λ b D2. then_put (plain.put_unless L.object ob D2) (λ c D3. at_once (Row.Triple a b c) D3)))
      (λ (a : Term × State). put_at o H Position.Predicate p a.1 >>= λ (b : Term × State). put_at o H Position.Object ob b.1 >>= λ (c : Term × State). Ok (Row.Triple a.0 b.0 c.0, c.1))
      (at_along o H Position.Subject s L.subject (start H) D agrees.subject (start_stands o H D L agrees))
      (λ x a was first. then_along o H a.1 (plain.put_unless L.predicate p x.desk) (put_at o H Position.Predicate p a.1)
      (λ b D2. then_put (plain.put_unless L.object ob D2) (λ c D3. at_once (Row.Triple x.answer b c) D3))
      (λ (b : Term × State). put_at o H Position.Object ob b.1 >>= λ (c : Term × State). Ok (Row.Triple a.0 b.0 c.0, c.1))
      (at_along o H Position.Predicate p L.predicate a.1 x.desk agrees.predicate first.stands)
      (λ y b is second. then_along o H b.1 (plain.put_unless L.object ob y.desk) (put_at o H Position.Object ob b.1) (λ c D3. at_once (Row.Triple x.answer y.answer c) D3) (λ (c : Term × State). Ok (Row.Triple a.0 b.0 c.0, c.1))
      (at_along o H Position.Object ob L.object b.1 y.desk agrees.object second.stands)
      (λ z c has third. once_along o H c.1 z.desk (Row.Triple x.answer y.answer z.answer) (Row.Triple a.0 b.0 c.0) (let e = first.answer in let f = second.answer in let g = third.answer in cc) third.stands) (λ c. omega arith))
      (λ b. then_grows b.1 (put_at o H Position.Object ob b.1) (λ (c : Term × State). Ok (Row.Triple a.0 b.0 c.0, c.1)) (at_grows o H Position.Object ob b.1) (λ c. omega arith)))
      (λ a. then_grows a.1 (put_at o H Position.Predicate p a.1) (λ (b : Term × State). put_at o H Position.Object ob b.1 >>= λ (c : Term × State). Ok (Row.Triple a.0 b.0 c.0, c.1)) (at_grows o H Position.Predicate p a.1)
      (λ b. then_grows b.1 (put_at o H Position.Object ob b.1) (λ (c : Term × State). Ok (Row.Triple a.0 b.0 c.0, c.1)) (at_grows o H Position.Object ob b.1) (λ c. omega arith)))
  row_along (Item.Quad s p ob g) =
      then_along o H (start H) (plain.put_unless L.subject s D) (put_at o H Position.Subject s (start H))
      (λ a D1. then_put (plain.put_unless L.predicate p D1) (λ b D2. then_put (plain.put_unless L.object ob D2) (λ c D3. then_put (plain.put_unless L.graph g D3) (λ d D4. at_once (Row.Quad a b c d) D4))))
      (λ (a : Term × State). put_at o H Position.Predicate p a.1 >>= λ (b : Term × State). put_at o H Position.Object ob b.1 >>= λ (c : Term × State). put_at o H Position.Graph g c.1 >>= λ (d : Term × State). Ok (Row.Quad a.0 b.0 c.0 d.0, d.1))
      (at_along o H Position.Subject s L.subject (start H) D agrees.subject (start_stands o H D L agrees))
      (λ x a was first. then_along o H a.1 (plain.put_unless L.predicate p x.desk) (put_at o H Position.Predicate p a.1)
      (λ b D2. then_put (plain.put_unless L.object ob D2) (λ c D3. then_put (plain.put_unless L.graph g D3) (λ d D4. at_once (Row.Quad x.answer b c d) D4)))
      (λ (b : Term × State). put_at o H Position.Object ob b.1 >>= λ (c : Term × State). put_at o H Position.Graph g c.1 >>= λ (d : Term × State). Ok (Row.Quad a.0 b.0 c.0 d.0, d.1))
      (at_along o H Position.Predicate p L.predicate a.1 x.desk agrees.predicate first.stands)
      (λ y b is second. then_along o H b.1 (plain.put_unless L.object ob y.desk) (put_at o H Position.Object ob b.1)
      (λ c D3. then_put (plain.put_unless L.graph g D3) (λ d D4. at_once (Row.Quad x.answer y.answer c d) D4))
      (λ (c : Term × State). put_at o H Position.Graph g c.1 >>= λ (d : Term × State). Ok (Row.Quad a.0 b.0 c.0 d.0, d.1))
      (at_along o H Position.Object ob L.object b.1 y.desk agrees.object second.stands)
      (λ z c has third. then_along o H c.1 (plain.put_unless L.graph g z.desk) (put_at o H Position.Graph g c.1) (λ d D4. at_once (Row.Quad x.answer y.answer z.answer d) D4) (λ (d : Term × State). Ok (Row.Quad a.0 b.0 c.0 d.0, d.1))
      (at_along o H Position.Graph g L.graph c.1 z.desk agrees.graph third.stands)
      (λ w d stood fourth. once_along o H d.1 w.desk (Row.Quad x.answer y.answer z.answer w.answer) (Row.Quad a.0 b.0 c.0 d.0) (let e = first.answer in let f = second.answer in let h = third.answer in let k = fourth.answer in cc) fourth.stands) (λ d. omega arith))
      (λ c. graph_grows a.0 b.0 c))
      (λ b. object_grows a.0 b))
      (λ a. then_grows a.1 (put_at o H Position.Predicate p a.1) (λ (b : Term × State). put_at o H Position.Object ob b.1 >>= λ (c : Term × State). put_at o H Position.Graph g c.1 >>= λ (d : Term × State). Ok (Row.Quad a.0 b.0 c.0 d.0, d.1)) (at_grows o H Position.Predicate p a.1) (λ b. object_grows a.0 b))
    where
      graph_grows : (a b : Term) (c : Term × State) → Grows c.1 (put_at o H Position.Graph g c.1 >>= λ (d : Term × State). Ok (Row.Quad a b c.0 d.0, d.1))
      graph_grows a b c = then_grows c.1 (put_at o H Position.Graph g c.1) (λ (d : Term × State). Ok (Row.Quad a b c.0 d.0, d.1)) (at_grows o H Position.Graph g c.1) (λ d. omega arith)

      object_grows : (a : Term) (b : Term × State) → Grows b.1 (put_at o H Position.Object ob b.1 >>= λ (c : Term × State). put_at o H Position.Graph g c.1 >>= λ (d : Term × State). Ok (Row.Quad a b.0 c.0 d.0, d.1))
      object_grows a b = then_grows b.1 (put_at o H Position.Object ob b.1) (λ (c : Term × State). put_at o H Position.Graph g c.1 >>= λ (d : Term × State). Ok (Row.Quad a b.0 c.0 d.0, d.1)) (at_grows o H Position.Object ob b.1) (λ c. graph_grows a b.0 c)
  row_along (Item.Namespace name iri) =
      then_along o H (start H) (plain.put_iri iri D) (put_iri o H iri (start H)) (λ i D1. at_once (Row.Namespace name (Some i)) D1) (λ (i : Ids × State). Ok (Row.Namespace name (Some i.0), i.1)) (iri_along o H iri (start H) D (start_stands o H D L agrees))
      (λ s i was w. once_along o H i.1 s.desk (Row.Namespace name (Some s.answer)) (Row.Namespace name (Some i.0)) (let e = w.answer in cc) w.stands) (λ i. omega arith)

  -- the desk for the next item
  next_agrees : (i : Item) (s : Step Row) (r : Row × State) → ItemHasTags i → put_row o H i ≡ Ok r → GoesWith o H (start H) s r → Agrees o (rows_of r ++ H) (for_next s.desk) (lasts_behind i L)
  next_agrees i s r tags was w =
      let leaves = row_leaves o H i r tags was in
      let are : item_rows o H i ≡ Ok (rows_of r) = rows_are o H i ∙ ap rows_in was in
      record {
        tables = λ t. each t leaves;
        prefix = w.stands.prefix ∙ ap prefix_id leaves.seen;
        name = w.stands.name ∙ ap name_id leaves.seen;
        hidden = refl;
        item = omega arith;
        subject = subject_is i ∙ sym (last_terms o H i (rows_of r) Position.Subject tags are);
        predicate = predicate_is i ∙ sym (last_terms o H i (rows_of r) Position.Predicate tags are);
        object = object_is i ∙ sym (last_terms o H i (rows_of r) Position.Object tags are);
        graph = graph_is i ∙ sym (last_terms o H i (rows_of r) Position.Graph tags are);
      }
    where
      each : (t : Table) → Leaves H r → TableAgrees o (rows_of r ++ H) t (s.desk.item + 1) (texts_of t (for_next s.desk))
      each t leaves =
          let A = (w.stands.tables t).agrees in
          let made : TableAgrees o (rows_of r ++ H) t (s.desk.item + 1) (texts_of t s.desk) =
          record {
            size = A.size;
            slots = λ k. leaves.slots t (k + 1) (r.1.entries ++ H) ∙ A.slots k;
            last = A.last ∙ sym (leaves.ids t (r.1.entries ++ H));
            held_fit = A.held_fit;
            last_fits = A.last_fits;
            filling = A.filling;
            marked = A.marked;
            older = A.older;
          } in
          let e = next_texts s.desk t in
          rw e made

      subject_is : (i : Item) → (lasts_behind i L).subject ≡ option_or (term_of Position.Subject i) (last_term Position.Subject H)
      subject_is (Item.Triple s p ob) = refl
      subject_is (Item.Quad s p ob g) = refl
      subject_is (Item.Namespace name iri) = agrees.subject

      predicate_is : (i : Item) → (lasts_behind i L).predicate ≡ option_or (term_of Position.Predicate i) (last_term Position.Predicate H)
      predicate_is (Item.Triple s p ob) = refl
      predicate_is (Item.Quad s p ob g) = refl
      predicate_is (Item.Namespace name iri) = agrees.predicate

      object_is : (i : Item) → (lasts_behind i L).object ≡ option_or (term_of Position.Object i) (last_term Position.Object H)
      object_is (Item.Triple s p ob) = refl
      object_is (Item.Quad s p ob g) = refl
      object_is (Item.Namespace name iri) = agrees.object

      graph_is : (i : Item) → (lasts_behind i L).graph ≡ option_or (term_of Position.Graph i) (last_term Position.Graph H)
      graph_is (Item.Triple s p ob) = agrees.graph
      graph_is (Item.Quad s p ob g) = refl
      graph_is (Item.Namespace name iri) = agrees.graph

  -- the bytes of the rows
  pub bytes_are : (s : Step Row) (r : Row × State) → GoesWith o H (start H) s r → body_of (reverse (rows_of r)) ≡ item_bytes s
  bytes_are s r w = body_behind r.0 r.1.entries ∙ ap (λ (bs : List ℕ). bs ++ body_of (r.0 ∷ [])) w.bytes ∙ ap (λ (row : Row). s.bytes ++ body_of (row ∷ [])) (sym w.answer)

pub steps_are_rows : StepsAreRows
steps_are_rows o H D L i s agrees tags put = by_row (put_row o H i) refl (subst (λ (x : Option (Step Row)). Along o H (start H) x (put_row o H i)) put (row_along o H D L agrees i))
  where
    by_row : (r : Result (Row × State) Refusal) → put_row o H i ≡ r → Along o H (start H) (Some s) r → GivesRows o H i L D s
    by_row (Ok r) was w = record {
      rows = rows_of r;
      are = rows_are o H i ∙ ap rows_in was;
      number = subst (λ (x : Option (Step Row)). Keeps D.item x) put (item_keeps D.item i L D refl);
      bytes = bytes_are o H D L agrees s r w;
      agrees = next_agrees o H D L agrees i s r tags was w;
    }
    by_row (Err e) was w = absurd w
