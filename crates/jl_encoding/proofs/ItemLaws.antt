-- The rows of items state these items.
use Rattle.std.proofs.Common.{◌≡◌, ℕ, Bool, true, false, List, [], ◌∷◌, ◌++◌, Option, Some, None, Ok, if◌then◌else◌, refl, ap, sym, ◌∙◌, subst, append_assoc, append-nil}
use Rattle.std.proofs.lemmas.Bool.{eqb-true}
use Rattle.std.specs.Option.{option_or}
use Rattle.jl_base.specs.Results.{◌>>=◌, some_or, answered}
use Rattle.jl_base.specs.declared.kind.Kind.TheVariants.{NoTerm}
use Rattle.jl_base.specs.Terms.{Value, Item}
use Rattle.jl_rows.specs.Written.{StreamOptions, Ids, Term, Row}
use Rattle.jl_rows.specs.History.{History, seen_in, seen_after}
use Rattle.jl_rows.specs.Values.{Position, slots_of, iri_text, set_by, seen_before, value_in, is_unset, last_term}
use Rattle.jl_rows.specs.Decoder.{is_triples, is_quads, meaning}
use Rattle.jl_rows.proofs.Binding.{bound}
use Rattle.jl_encoding.specs.Slots.{State}
use Rattle.jl_encoding.specs.Terms.{put_iri, put_at}
use Rattle.jl_encoding.specs.Items.{start, item_rows, with_items, Fits, ItemHasTags, stated_by, under, AllowsAll, term_of, ItemsAreStated, LastTermsAreTheItems}
use Rattle.jl_encoding.proofs.SlotLaws.{some_or_ok}
use Rattle.jl_encoding.proofs.Claims.{Holds, Step, steps}
use Rattle.jl_encoding.proofs.GuardLaws.{means_kept}
use Rattle.jl_encoding.proofs.IriLaws.{puts_iri}
use Rattle.jl_encoding.proofs.TermLaws.{taken_at, PutsAt, puts_at}

triple_means : (strict : Bool) (o : StreamOptions) → (strict ≡ true → AllowsAll o) → (K : History) (a b c : Term) (s p ob : Value) → is_triples o ≡ true → taken_at Position.Subject K (seen_in K) a ≡ Ok s → taken_at Position.Predicate K (seen_after a (seen_in K)) b ≡ Ok p
    → taken_at Position.Object K (seen_after b (seen_after a (seen_in K))) c ≡ Ok ob → meaning (under strict o) (Row.Triple a b c) K ≡ Ok (Item.Triple s p ob ∷ [])
triple_means strict o allows K a b c s p ob fits first second third =
    let physical : o.physical ≡ 1 = eqb-true o.physical 1 fits in
    means_kept strict o allows (Row.Triple a b c) K (Item.Triple s p ob ∷ []) (rw (physical, first, second, third) refl)

quad_means : (strict : Bool) (o : StreamOptions) → (strict ≡ true → AllowsAll o) → (K : History) (a b c d : Term) (s p ob g : Value) → is_quads o ≡ true → taken_at Position.Subject K (seen_in K) a ≡ Ok s → taken_at Position.Predicate K (seen_after a (seen_in K)) b ≡ Ok p
    → taken_at Position.Object K (seen_after b (seen_after a (seen_in K))) c ≡ Ok ob → taken_at Position.Graph K (seen_after c (seen_after b (seen_after a (seen_in K)))) d ≡ Ok g → meaning (under strict o) (Row.Quad a b c d) K ≡ Ok (Item.Quad s p ob g ∷ [])
quad_means strict o allows K a b c d s p ob g fits first second third fourth =
    let physical : o.physical ≡ 2 = eqb-true o.physical 2 fits in
    means_kept strict o allows (Row.Quad a b c d) K (Item.Quad s p ob g ∷ []) (rw (physical, first, second, third, fourth) refl)

namespace_means : (strict : Bool) (o : StreamOptions) → (strict ≡ true → AllowsAll o) → (K : History) (name iri : List ℕ) (i : Ids) → iri_text (slots_of K) (i ∷ seen_in K) ≡ Ok iri → meaning (under strict o) (Row.Namespace name (Some i)) K ≡ Ok (Item.Namespace name iri ∷ [])
namespace_means true o allows K name iri i said =
    let later = (allows refl).later in
    means_kept true o allows (Row.Namespace name (Some i)) K (Item.Namespace name iri ∷ []) (rw (later, said) refl)
namespace_means false o allows K name iri i said = rw said refl

-- a row that states one item, behind rows that state some
stated_with : (o : StreamOptions) (K : History) (r : Row) (xs ys : List Item) → stated_by o K ≡ Ok xs → meaning o r K ≡ Ok ys → stated_by o (r ∷ K) ≡ Ok (xs ++ ys)
unfolding stated_by
stated_with o K r xs ys before means = rw (before, means) refl

-- at a position behind these IRIs, in the rows that the item ends with
at : (o : StreamOptions) (H K : History) (x : Position) (v : Value) (st st' : State) (t : Term) (seen : List Ids) → PutsAt o H x v st st' t → last_term x K ≡ last_term x H → Holds K st'.claims → st.seen ≡ seen → taken_at x K seen t ≡ Ok v
at o H K x v st st' t seen put last holds same = subst (λ (ids : List Ids). taken_at x K ids t ≡ Ok v) same (put.says K last holds)

-- A row's terms as the decoder takes them, behind the item's entries.
pub record Behind (o : StreamOptions) (H : History) (entries : List Row) : Type 0 where
  pub quiet : (strict : Bool) → stated_by (under strict o) (entries ++ H) ≡ stated_by (under strict o) H
  pub terms : (x : Position) → last_term x (entries ++ H) ≡ last_term x H

pub record TripleRows (o : StreamOptions) (H : History) (s p ob : Value) (rs : List Row) : Type 0 where
  pub a : Term
  pub b : Term
  pub c : Term
  pub entries : List Row
  pub are : Row.Triple a b c ∷ entries ≡ rs
  pub behind : Behind o H entries
  pub subject : taken_at Position.Subject (entries ++ H) (seen_in (entries ++ H)) a ≡ Ok s
  pub predicate : taken_at Position.Predicate (entries ++ H) (seen_after a (seen_in (entries ++ H))) b ≡ Ok p
  pub object : taken_at Position.Object (entries ++ H) (seen_after b (seen_after a (seen_in (entries ++ H)))) c ≡ Ok ob

pub record QuadRows (o : StreamOptions) (H : History) (s p ob g : Value) (rs : List Row) : Type 0 where
  pub a : Term
  pub b : Term
  pub c : Term
  pub d : Term
  pub entries : List Row
  pub are : Row.Quad a b c d ∷ entries ≡ rs
  pub behind : Behind o H entries
  pub subject : taken_at Position.Subject (entries ++ H) (seen_in (entries ++ H)) a ≡ Ok s
  pub predicate : taken_at Position.Predicate (entries ++ H) (seen_after a (seen_in (entries ++ H))) b ≡ Ok p
  pub object : taken_at Position.Object (entries ++ H) (seen_after b (seen_after a (seen_in (entries ++ H)))) c ≡ Ok ob
  pub graph : taken_at Position.Graph (entries ++ H) (seen_after c (seen_after b (seen_after a (seen_in (entries ++ H))))) d ≡ Ok g

pub record NamespaceRows (o : StreamOptions) (H : History) (name iri : List ℕ) (rs : List Row) : Type 0 where
  pub i : Ids
  pub entries : List Row
  pub are : Row.Namespace name (Some i) ∷ entries ≡ rs
  pub behind : Behind o H entries
  pub says : iri_text (slots_of (entries ++ H)) (i ∷ seen_in (entries ++ H)) ≡ Ok iri

module _ (o : StreamOptions) (H : History) where
  triple_taken : (s p ob : Value) (a b c : Term × State) (rs : List Row) → Row.Triple a.0 b.0 c.0 ∷ c.1.entries ≡ rs → PutsAt o H Position.Subject s (start H) a.1 a.0 → PutsAt o H Position.Predicate p a.1 b.1 b.0 → PutsAt o H Position.Object ob b.1 c.1 c.0
      → TripleRows o H s p ob rs
  unfolding Holds
  triple_taken s p ob a b c rs are first second third =
      let K = c.1.entries ++ H in
      let all : Step o H (start H) c.1 = steps first.step (steps second.step third.step) in
      let holds_c : Holds K c.1.claims = all.holds tt in
      let holds_b = third.step.keeps K holds_c in
      let holds_a = second.step.keeps K holds_b in
      let ids : seen_in H ≡ seen_in K = sym all.ids in
      let seen_a : a.1.seen ≡ seen_after a.0 (seen_in K) = first.seen ∙ ap (λ (seen : List Ids). seen_after a.0 seen) ids in
      let seen_b : b.1.seen ≡ seen_after b.0 (seen_after a.0 (seen_in K)) = second.seen ∙ ap (λ (seen : List Ids). seen_after b.0 seen) seen_a in
      record {
        a = a.0;
        b = b.0;
        c = c.0;
        entries = c.1.entries;
        are = are;
        behind = record { quiet = all.quiet; terms = all.terms };
        subject = at o H K Position.Subject s (start H) a.1 a.0 (seen_in K) first (all.terms Position.Subject) holds_a ids;
        predicate = at o H K Position.Predicate p a.1 b.1 b.0 (seen_after a.0 (seen_in K)) second (all.terms Position.Predicate) holds_b seen_a;
        object = at o H K Position.Object ob b.1 c.1 c.0 (seen_after b.0 (seen_after a.0 (seen_in K))) third (all.terms Position.Object) holds_c seen_b;
      }

  quad_taken : (s p ob g : Value) (a b c d : Term × State) (rs : List Row) → Row.Quad a.0 b.0 c.0 d.0 ∷ d.1.entries ≡ rs → PutsAt o H Position.Subject s (start H) a.1 a.0 → PutsAt o H Position.Predicate p a.1 b.1 b.0 → PutsAt o H Position.Object ob b.1 c.1 c.0 → PutsAt o H Position.Graph g c.1 d.1 d.0
      → QuadRows o H s p ob g rs
  unfolding Holds
  quad_taken s p ob g a b c d rs are first second third fourth =
      let K = d.1.entries ++ H in
      let all : Step o H (start H) d.1 = steps first.step (steps second.step (steps third.step fourth.step)) in
      let holds_d : Holds K d.1.claims = all.holds tt in
      let holds_c = fourth.step.keeps K holds_d in
      let holds_b = third.step.keeps K holds_c in
      let holds_a = second.step.keeps K holds_b in
      let ids : seen_in H ≡ seen_in K = sym all.ids in
      let seen_a : a.1.seen ≡ seen_after a.0 (seen_in K) = first.seen ∙ ap (λ (seen : List Ids). seen_after a.0 seen) ids in
      let seen_b : b.1.seen ≡ seen_after b.0 (seen_after a.0 (seen_in K)) = second.seen ∙ ap (λ (seen : List Ids). seen_after b.0 seen) seen_a in
      let seen_c : c.1.seen ≡ seen_after c.0 (seen_after b.0 (seen_after a.0 (seen_in K))) = third.seen ∙ ap (λ (seen : List Ids). seen_after c.0 seen) seen_b in
      record {
        a = a.0;
        b = b.0;
        c = c.0;
        d = d.0;
        entries = d.1.entries;
        are = are;
        behind = record { quiet = all.quiet; terms = all.terms };
        subject = at o H K Position.Subject s (start H) a.1 a.0 (seen_in K) first (all.terms Position.Subject) holds_a ids;
        predicate = at o H K Position.Predicate p a.1 b.1 b.0 (seen_after a.0 (seen_in K)) second (all.terms Position.Predicate) holds_b seen_a;
        object = at o H K Position.Object ob b.1 c.1 c.0 (seen_after b.0 (seen_after a.0 (seen_in K))) third (all.terms Position.Object) holds_c seen_b;
        graph = at o H K Position.Graph g c.1 d.1 d.0 (seen_after c.0 (seen_after b.0 (seen_after a.0 (seen_in K)))) fourth (all.terms Position.Graph) holds_d seen_c;
      }

  pub triple_put : (s p ob : Value) (rs : List Row) → ItemHasTags (Item.Triple s p ob) → item_rows o H (Item.Triple s p ob) ≡ Ok rs → TripleRows o H s p ob rs
  unfolding item_rows
  triple_put s p ob rs tags e =
      let a = bound (put_at o H Position.Subject s (start H)) (λ (a : Term × State). put_at o H Position.Predicate p a.1 >>= λ (b : Term × State). put_at o H Position.Object ob b.1 >>= λ (c : Term × State). Ok (Row.Triple a.0 b.0 c.0 ∷ c.1.entries)) rs e in
      let b = bound (put_at o H Position.Predicate p a.value.1) (λ (b : Term × State). put_at o H Position.Object ob b.1 >>= λ (c : Term × State). Ok (Row.Triple a.value.0 b.0 c.0 ∷ c.1.entries)) rs a.then in
      let c = bound (put_at o H Position.Object ob b.value.1) (λ (c : Term × State). Ok (Row.Triple a.value.0 b.value.0 c.0 ∷ c.1.entries)) rs b.then in
      let same : ◌≡◌ {A = List Row} (Row.Triple a.value.0 b.value.0 c.value.0 ∷ c.value.1.entries) rs = let h = c.then in cc in
      triple_taken s p ob a.value b.value c.value rs same (puts_at o H Position.Subject s (start H) a.value tags.0 a.was) (puts_at o H Position.Predicate p a.value.1 b.value tags.1 b.was) (puts_at o H Position.Object ob b.value.1 c.value tags.2 c.was)

  pub quad_put : (s p ob g : Value) (rs : List Row) → ItemHasTags (Item.Quad s p ob g) → item_rows o H (Item.Quad s p ob g) ≡ Ok rs → QuadRows o H s p ob g rs
  unfolding item_rows
  quad_put s p ob g rs tags e =
      let a = bound (put_at o H Position.Subject s (start H)) (λ (a : Term × State). put_at o H Position.Predicate p a.1 >>= λ (b : Term × State). put_at o H Position.Object ob b.1 >>= λ (c : Term × State). put_at o H Position.Graph g c.1 >>= λ (d : Term × State). Ok (Row.Quad a.0 b.0 c.0 d.0 ∷ d.1.entries)) rs e in
      let b = bound (put_at o H Position.Predicate p a.value.1) (λ (b : Term × State). put_at o H Position.Object ob b.1 >>= λ (c : Term × State). put_at o H Position.Graph g c.1 >>= λ (d : Term × State). Ok (Row.Quad a.value.0 b.0 c.0 d.0 ∷ d.1.entries)) rs a.then in
      let c = bound (put_at o H Position.Object ob b.value.1) (λ (c : Term × State). put_at o H Position.Graph g c.1 >>= λ (d : Term × State). Ok (Row.Quad a.value.0 b.value.0 c.0 d.0 ∷ d.1.entries)) rs b.then in
      let d = bound (put_at o H Position.Graph g c.value.1) (λ (d : Term × State). Ok (Row.Quad a.value.0 b.value.0 c.value.0 d.0 ∷ d.1.entries)) rs c.then in
      let same : ◌≡◌ {A = List Row} (Row.Quad a.value.0 b.value.0 c.value.0 d.value.0 ∷ d.value.1.entries) rs = let h = d.then in cc in
      quad_taken s p ob g a.value b.value c.value d.value rs same (puts_at o H Position.Subject s (start H) a.value tags.0 a.was) (puts_at o H Position.Predicate p a.value.1 b.value tags.1 b.was) (puts_at o H Position.Object ob b.value.1 c.value tags.2 c.was) (puts_at o H Position.Graph g c.value.1 d.value tags.3 d.was)

  pub namespace_put : (name iri : List ℕ) (rs : List Row) → item_rows o H (Item.Namespace name iri) ≡ Ok rs → NamespaceRows o H name iri rs
  unfolding item_rows Holds
  namespace_put name iri rs e =
      let i = bound (put_iri o H iri (start H)) (λ (i : Ids × State). Ok (Row.Namespace name (Some i.0) ∷ i.1.entries)) rs e in
      let put = puts_iri o H iri (start H) i.value i.was in
      let K = i.value.1.entries ++ H in
      let same : ◌≡◌ {A = List Row} (Row.Namespace name (Some i.value.0) ∷ i.value.1.entries) rs = let h = i.then in cc in
      record {
        i = i.value.0;
        entries = i.value.1.entries;
        are = same;
        behind = record { quiet = put.step.quiet; terms = put.step.terms };
        says = subst (λ (ids : List Ids). iri_text (slots_of K) (i.value.0 ∷ ids) ≡ Ok iri) (sym put.step.ids) (put.says K (put.step.holds tt));
      }

item_stated : (strict : Bool) (o : StreamOptions) → (strict ≡ true → AllowsAll o) → (H : History) (xs : List Item) → stated_by (under strict o) H ≡ Ok xs → (i : Item) (rs : List Row) → Fits o i → ItemHasTags i → item_rows o H i ≡ Ok rs → stated_by (under strict o) (rs ++ H) ≡ Ok (xs ++ (i ∷ []))
item_stated strict o allows H xs before (Item.Triple s p ob) rs fits tags e =
    let t = triple_put o H s p ob rs tags e in
    let K = t.entries ++ H in
    subst (λ (rows : List Row). stated_by (under strict o) (rows ++ H) ≡ Ok (xs ++ (Item.Triple s p ob ∷ []))) t.are
    (stated_with (under strict o) K (Row.Triple t.a t.b t.c) xs (Item.Triple s p ob ∷ []) (t.behind.quiet strict ∙ before) (triple_means strict o allows K t.a t.b t.c s p ob fits t.subject t.predicate t.object))
item_stated strict o allows H xs before (Item.Quad s p ob g) rs fits tags e =
    let t = quad_put o H s p ob g rs tags e in
    let K = t.entries ++ H in
    subst (λ (rows : List Row). stated_by (under strict o) (rows ++ H) ≡ Ok (xs ++ (Item.Quad s p ob g ∷ []))) t.are
    (stated_with (under strict o) K (Row.Quad t.a t.b t.c t.d) xs (Item.Quad s p ob g ∷ []) (t.behind.quiet strict ∙ before) (quad_means strict o allows K t.a t.b t.c t.d s p ob g fits t.subject t.predicate t.object t.graph))
item_stated strict o allows H xs before (Item.Namespace name iri) rs fits tags e =
    let t = namespace_put o H name iri rs e in
    let K = t.entries ++ H in
    subst (λ (rows : List Row). stated_by (under strict o) (rows ++ H) ≡ Ok (xs ++ (Item.Namespace name iri ∷ []))) t.are
    (stated_with (under strict o) K (Row.Namespace name (Some t.i)) xs (Item.Namespace name iri ∷ []) (t.behind.quiet strict ∙ before) (namespace_means strict o allows K name iri t.i t.says))

-- the term that a row sets or repeats is the last one behind it
taken_last : (x : Position) (r : Row) (K : History) (v : Value) → taken_at x K (seen_before x r (seen_in K)) (set_by x r) ≡ Ok v → last_term x (r ∷ K) ≡ Some v
unfolding last_term
taken_last x r K v taken = by_test (is_unset (set_by x r)) taken
  where
    by_test : (b : Bool) → (if b then some_or (last_term x K) NoTerm else value_in x r K) ≡ Ok v → (if b then last_term x K else answered (value_in x r K)) ≡ Some v
    by_test true h = some_or_ok (last_term x K) NoTerm v h
    by_test false h = ap answered h

triple_sets_no_graph : (a b c : Term) (K : History) → last_term Position.Graph (Row.Triple a b c ∷ K) ≡ last_term Position.Graph K
unfolding last_term
triple_sets_no_graph a b c K = refl

namespace_sets_no_term : (x : Position) (name : List ℕ) (i : Ids) (K : History) → last_term x (Row.Namespace name (Some i) ∷ K) ≡ last_term x K
unfolding last_term
namespace_sets_no_term Position.Subject name i K = refl
namespace_sets_no_term Position.Predicate name i K = refl
namespace_sets_no_term Position.Object name i K = refl
namespace_sets_no_term Position.Graph name i K = refl

namespace_has_none : (x : Position) (name iri : List ℕ) → None ≡ term_of x (Item.Namespace name iri)
namespace_has_none Position.Subject name iri = refl
namespace_has_none Position.Predicate name iri = refl
namespace_has_none Position.Object name iri = refl
namespace_has_none Position.Graph name iri = refl

pub last_terms : LastTermsAreTheItems
last_terms o H i rs x tags e = by_item i tags e x
  where
    by_item : (i : Item) → ItemHasTags i → item_rows o H i ≡ Ok rs → (x : Position) → last_term x (rs ++ H) ≡ option_or (term_of x i) (last_term x H)
    by_item (Item.Triple s p ob) tags e x =
        let t = triple_put o H s p ob rs tags e in
        subst (λ (rows : List Row). last_term x (rows ++ H) ≡ option_or (term_of x (Item.Triple s p ob)) (last_term x H)) t.are (triple_last t x)
      where
        triple_last : (t : TripleRows o H s p ob rs) (x : Position) → last_term x (Row.Triple t.a t.b t.c ∷ (t.entries ++ H)) ≡ option_or (term_of x (Item.Triple s p ob)) (last_term x H)
        triple_last t Position.Subject = taken_last Position.Subject (Row.Triple t.a t.b t.c) (t.entries ++ H) s t.subject
        triple_last t Position.Predicate = taken_last Position.Predicate (Row.Triple t.a t.b t.c) (t.entries ++ H) p t.predicate
        triple_last t Position.Object = taken_last Position.Object (Row.Triple t.a t.b t.c) (t.entries ++ H) ob t.object
        triple_last t Position.Graph = triple_sets_no_graph t.a t.b t.c (t.entries ++ H) ∙ t.behind.terms Position.Graph
    by_item (Item.Quad s p ob g) tags e x =
        let t = quad_put o H s p ob g rs tags e in
        subst (λ (rows : List Row). last_term x (rows ++ H) ≡ option_or (term_of x (Item.Quad s p ob g)) (last_term x H)) t.are (quad_last t x)
      where
        quad_last : (t : QuadRows o H s p ob g rs) (x : Position) → last_term x (Row.Quad t.a t.b t.c t.d ∷ (t.entries ++ H)) ≡ option_or (term_of x (Item.Quad s p ob g)) (last_term x H)
        quad_last t Position.Subject = taken_last Position.Subject (Row.Quad t.a t.b t.c t.d) (t.entries ++ H) s t.subject
        quad_last t Position.Predicate = taken_last Position.Predicate (Row.Quad t.a t.b t.c t.d) (t.entries ++ H) p t.predicate
        quad_last t Position.Object = taken_last Position.Object (Row.Quad t.a t.b t.c t.d) (t.entries ++ H) ob t.object
        quad_last t Position.Graph = taken_last Position.Graph (Row.Quad t.a t.b t.c t.d) (t.entries ++ H) g t.graph
    by_item (Item.Namespace name iri) tags e x =
        let t = namespace_put o H name iri rs e in
        subst (λ (rows : List Row). last_term x (rows ++ H) ≡ last_term x H) t.are (namespace_sets_no_term x name t.i (t.entries ++ H) ∙ t.behind.terms x)
        ∙ ap (λ (said : Option Value). option_or said (last_term x H)) (namespace_has_none x name iri)

pub items_stated : ItemsAreStated
unfolding with_items
items_stated strict o H K xs [] allows fits tags before e =
    let same : H ≡ K = cc in
    subst (λ (L : History). stated_by (under strict o) L ≡ Ok (xs ++ [])) same (before ∙ ap Ok (sym (append-nil xs)))
items_stated strict o H K xs (i ∷ is) allows fits tags before e =
    let rs = bound (item_rows o H i) (λ (rs : List Row). with_items o (rs ++ H) is) K e in
    let one = item_stated strict o allows H xs before i rs.value fits.0 tags.0 rs.was in
    items_stated strict o (rs.value ++ H) K (xs ++ (i ∷ [])) is allows fits.1 tags.1 one rs.then ∙ ap Ok (append_assoc xs (i ∷ []) is)
