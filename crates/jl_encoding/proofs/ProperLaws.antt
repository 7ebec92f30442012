-- The rows of proper items can be spelled.
use Rattle.std.proofs.Common.{◌≡◌, ℕ, zero, suc, ◌+◌, ◌<◌, ◌^◌, ◌==◌, ◌&&◌, Bool, true, false, List, [], ◌∷◌, ◌++◌, length, take, drop, get_or, reverse, Option, Some, None, Ok, nat_eq, if◌then◌else◌, refl, subst, inl, inr, arith, ◌⊎◌}
use mathlib.Core.List.{reverse_aux}
use Rattle.std.specs.List.{AllByRecursion}
use Rattle.std.proofs.lemmas.Bool.{eqb-true, eqb-false, or_cases}
use Rattle.std.proofs.lemmas.Str.{IsUtf8-from_is_utf8, is_utf8-from_IsUtf8, IsUtf8-nil, IsUtf8-take, IsUtf8-drop, IsCharBoundary-after_ascii}
use Rattle.jl_base.specs.Results.{◌>>=◌}
use Rattle.jl_base.specs.Terms.{Tail, Value, Item}
use Rattle.jl_rows.specs.declared.row.Table.{Table}
use Rattle.jl_rows.specs.Written.{StreamOptions, Ids, Ending, Term, Row}
use Rattle.jl_rows.specs.History.{History, prefix_id, name_id}
use Rattle.jl_rows.specs.Values.{Position, last_term}
use Rattle.jl_rows.specs.Decoder.{size_of}
use Rattle.jl_rows.proofs.Binding.{bound}
use Rattle.jl_spell.specs.Rows.{IsText, AreIds, IsEnding, IsTerm, IsGraph}
use Rattle.jl_encoding.specs.Sameness.{is_value}
use Rattle.jl_encoding.specs.Splits.{is_cut, prefix_len, prefix_of, name_of}
use Rattle.jl_encoding.specs.Slots.{State, unless_given, holder, next_slot, with_claim, with_entry, used_or_new, put_text}
use Rattle.jl_encoding.specs.Terms.{is_empty, put_prefix, ids_of, with_iri, put_iri, put_tail, put_term, put_at}
use Rattle.jl_encoding.specs.Items.{start, item_rows, HasTags, ItemHasTags}
use Rattle.jl_encoding.specs.Proper.{IsProperTail, IsProper, IsProperGraph, IsProperItem}
use Rattle.jl_encoding.specs.Encoding.{each_item}
use Rattle.jl_encoding.proofs.TextLaws.{new_slot, puts_text}
use Rattle.jl_encoding.proofs.CutLaws.{AreRows}

-- the byte after which an IRI is split
record Cut (text : List ℕ) : Type 0 where
  at : ℕ
  is : prefix_len text ≡ at + 1
  inside : at < length text
  ascii : get_or text at 0 < 128

cut_is_ascii : (b : ℕ) → is_cut b ≡ true → b < 128
cut_is_ascii b h = elim (or_cases (b == 47) (b == 35) h) [
  | inl slash ↦ omega (arith, eqb-true b 47 slash)
  | inr sign ↦ omega (arith, eqb-true b 35 sign)
]

cut_place : (text : List ℕ) → (prefix_len text ≡ 0) ⊎ Cut text
cut_place [] = inl refl
cut_place (b ∷ bs) = by_rest (nat_eq (prefix_len bs) 0) (is_cut b) refl refl (cut_place bs)
  where
    by_rest : (none here : Bool) → nat_eq (prefix_len bs) 0 ≡ none → is_cut b ≡ here → (prefix_len bs ≡ 0) ⊎ Cut bs → (prefix_len (b ∷ bs) ≡ 0) ⊎ Cut (b ∷ bs)
    by_rest true true none here rest = inr (record { at = 0; is = rw (none, here) refl; inside = omega arith; ascii = cut_is_ascii b here })
    by_rest true false none here rest = inl (rw (none, here) refl)
    by_rest false here none is_here (inl e) = absurd (eqb-false (prefix_len bs) 0 none e)
    by_rest false here none is_here (inr c) =
        let size : prefix_len bs + 1 ≡ suc c.at + 1 = omega (arith, c.is) in
        inr (record { at = suc c.at; is = rw none size; inside = omega (arith, c.inside); ascii = c.ascii })

split_texts : (text : List ℕ) → IsText text → IsText (prefix_of text) × IsText (name_of text)
split_texts text is = elim (cut_place text) [
  | inl none ↦ rw none (is_utf8-from_IsUtf8 [] IsUtf8-nil, is)
  | inr c ↦
      (let utf8 = IsUtf8-from_is_utf8 text is in
      let boundary = IsCharBoundary-after_ascii text c.at utf8 c.inside c.ascii in
      let same = c.is in
      rw same (is_utf8-from_IsUtf8 (take (c.at + 1) text) (IsUtf8-take text (c.at + 1) utf8 boundary), is_utf8-from_IsUtf8 (drop (c.at + 1) text) (IsUtf8-drop text (c.at + 1) utf8 boundary)))
]

unless_small : (given n : ℕ) → n < 2 ^ 32 → unless_given given n < 2 ^ 32
unless_small given n small = by_test (nat_eq given n)
  where
    by_test : (b : Bool) → (if b then 0 else n) < 2 ^ 32
    by_test true = omega arith
    by_test false = small

-- the sizes of tables are 32-bit numbers
abbrev pub AreSmall : StreamOptions → Type 0
AreSmall o = (t : Table) → size_of o t < 2 ^ 32

module _ (o : StreamOptions) (H : History) (sizes : AreSmall o) where
  text_rows : (t : Table) (text : List ℕ) (st : State) (r : ℕ × State) → IsText text → AreRows st.entries → put_text o H t text st ≡ Ok r → AreRows r.1.entries
  unfolding put_text
  text_rows t text st r is rows e = by_holder (holder o t text (st.entries ++ H)) e
    where
      by_holder : (held : Option ℕ) → used_or_new o H t text st held ≡ Ok r → AreRows r.1.entries
      by_holder (Some n) e =
          let same : ◌≡◌ {A = ℕ × State} (n, with_claim t n text st) r = cc in
          subst (λ (p : ℕ × State). AreRows p.1.entries) same rows
      by_holder None e =
          let b = bound (next_slot o t st.claims (st.entries ++ H)) (λ (n : ℕ). Ok (n, with_claim t n text (with_entry H t n text st))) r e in
          let same : ◌≡◌ {A = ℕ × State} (b.value, with_claim t b.value text (with_entry H t b.value text st)) r = let h = b.then in cc in
          let put = new_slot o H t text st b.value b.was in
          let size = sizes t in
          let small : b.value < 2 ^ 32 = omega (arith, put.fits, size) in
          subst (λ (p : ℕ × State). AreRows p.1.entries) same ((unless_small _ b.value small, is), rows)

  text_put : (t : Table) (text : List ℕ) (st : State) (r : ℕ × State) → IsText text → AreRows st.entries → put_text o H t text st ≡ Ok r → AreRows r.1.entries × (r.0 < 2 ^ 32)
  text_put t text st r is rows e =
      let put = puts_text o H t text st r e in
      let size = sizes t in
      (text_rows t text st r is rows e, omega (arith, put.fits, size))

  prefix_put : (text : List ℕ) (st : State) (r : ℕ × State) → IsText text → AreRows st.entries → put_prefix o H text st ≡ Ok r → AreRows r.1.entries × (r.0 < 2 ^ 32)
  unfolding put_prefix
  prefix_put text st r is rows e = by_test (is_empty text && (prefix_id st.seen == 0)) e
    where
      by_test : (b : Bool) → (if b then Ok (0, st) else put_text o H Table.Prefix text st) ≡ Ok r → AreRows r.1.entries × (r.0 < 2 ^ 32)
      by_test true e =
          let same : ◌≡◌ {A = ℕ × State} (0, st) r = cc in
          let zero_fits : 0 < 2 ^ 32 = omega arith in
          subst (λ (p : ℕ × State). AreRows p.1.entries × (p.0 < 2 ^ 32)) same (rows, zero_fits)
      by_test false e = text_put Table.Prefix text st r is rows e

  iri_put : (text : List ℕ) (st : State) (r : Ids × State) → IsText text → AreRows st.entries → put_iri o H text st ≡ Ok r → AreRows r.1.entries × AreIds r.0
  unfolding put_iri
  iri_put text st r is rows e =
      let parts = split_texts text is in
      let p = bound (put_prefix o H (prefix_of text) st) (λ (p : ℕ × State). put_text o H Table.Name (name_of text) p.1 >>= λ (n : ℕ × State). Ok (ids_of st.seen p.0 n.0, with_iri (ids_of st.seen p.0 n.0) n.1)) r e in
      let n = bound (put_text o H Table.Name (name_of text) p.value.1) (λ (n : ℕ × State). Ok (ids_of st.seen p.value.0 n.0, with_iri (ids_of st.seen p.value.0 n.0) n.1)) r p.then in
      let same : ◌≡◌ {A = Ids × State} (ids_of st.seen p.value.0 n.value.0, with_iri (ids_of st.seen p.value.0 n.value.0) n.value.1) r = let h = n.then in cc in
      let first = prefix_put (prefix_of text) st p.value parts.0 rows p.was in
      let second = text_put Table.Name (name_of text) p.value.1 n.value parts.1 first.0 n.was in
      subst (λ (q : Ids × State). AreRows q.1.entries × AreIds q.0) same
      (second.0, (unless_small (prefix_id st.seen) p.value.0 first.1, unless_small (name_id (record { prefix = 0; name = 0 } ∷ st.seen)) n.value.0 second.1))

  tail_put : (tail : Tail) (st : State) (r : Ending × State) → IsProperTail tail → AreRows st.entries → put_tail o H tail st ≡ Ok r → AreRows r.1.entries × IsEnding r.0
  unfolding put_tail
  tail_put Tail.Simple st r is rows e =
      let same : ◌≡◌ {A = Ending × State} (Ending.Simple, st) r = cc in
      subst (λ (q : Ending × State). AreRows q.1.entries × IsEnding q.0) same (rows, tt)
  tail_put (Tail.Lang tag) st r is rows e =
      let same : ◌≡◌ {A = Ending × State} (Ending.Lang tag, st) r = cc in
      subst (λ (q : Ending × State). AreRows q.1.entries × IsEnding q.0) same (rows, is.0)
  tail_put (Tail.Typed iri) st r is rows e =
      let n = bound (put_text o H Table.Datatype iri st) (λ (n : ℕ × State). Ok (Ending.Typed n.0, n.1)) r e in
      let put = text_put Table.Datatype iri st n.value is rows n.was in
      let same : ◌≡◌ {A = Ending × State} (Ending.Typed n.value.0, n.value.1) r = let h = n.then in cc in
      subst (λ (q : Ending × State). AreRows q.1.entries × IsEnding q.0) same put

  term_put : (v : Value) (depth : ℕ) (st : State) (r : Term × State) → IsProper depth v → AreRows st.entries → put_term o H v st ≡ Ok r → AreRows r.1.entries × IsTerm depth r.0
  unfolding put_term
  term_put (Value.Iri text) depth st r is rows e =
      let i = bound (put_iri o H text st) (λ (i : Ids × State). Ok (Term.Iri i.0, i.1)) r e in
      let same : ◌≡◌ {A = Term × State} (Term.Iri i.value.0, i.value.1) r = let h = i.then in cc in
      subst (λ (q : Term × State). AreRows q.1.entries × IsTerm depth q.0) same (iri_put text st i.value is rows i.was)
  term_put (Value.Bnode label) depth st r is rows e =
      let same : ◌≡◌ {A = Term × State} (Term.Bnode label, st) r = cc in
      subst (λ (q : Term × State). AreRows q.1.entries × IsTerm depth q.0) same (rows, is)
  term_put (Value.Literal lex tail) depth st r is rows e =
      let t = bound (put_tail o H tail st) (λ (t : Ending × State). Ok (Term.Literal lex t.0, t.1)) r e in
      let put = tail_put tail st t.value is.1 rows t.was in
      let same : ◌≡◌ {A = Term × State} (Term.Literal lex t.value.0, t.value.1) r = let h = t.then in cc in
      subst (λ (q : Term × State). AreRows q.1.entries × IsTerm depth q.0) same (put.0, (is.0, put.1))
  term_put (Value.Nested s p ob) zero st r is rows e = absurd is
  term_put (Value.Nested s p ob) (suc depth) st r is rows e =
      let a = bound (put_term o H s st) (λ (a : Term × State). put_term o H p a.1 >>= λ (b : Term × State). put_term o H ob b.1 >>= λ (c : Term × State). Ok (Term.Nested a.0 b.0 c.0, c.1)) r e in
      let b = bound (put_term o H p a.value.1) (λ (b : Term × State). put_term o H ob b.1 >>= λ (c : Term × State). Ok (Term.Nested a.value.0 b.0 c.0, c.1)) r a.then in
      let c = bound (put_term o H ob b.value.1) (λ (c : Term × State). Ok (Term.Nested a.value.0 b.value.0 c.0, c.1)) r b.then in
      let same : ◌≡◌ {A = Term × State} (Term.Nested a.value.0 b.value.0 c.value.0, c.value.1) r = let h = c.then in cc in
      let first = term_put s depth st a.value is.0 rows a.was in
      let second = term_put p depth a.value.1 b.value is.1 first.0 b.was in
      let third = term_put ob depth b.value.1 c.value is.2 second.0 c.was in
      subst (λ (q : Term × State). AreRows q.1.entries × IsTerm (suc depth) q.0) same (third.0, (first.1, second.1, third.1))
  term_put Value.Default depth st r is rows e = absurd is

  graph_put : (v : Value) (st : State) (r : Term × State) → IsProperGraph v → AreRows st.entries → put_term o H v st ≡ Ok r → AreRows r.1.entries × IsGraph r.0
  unfolding put_term
  graph_put (Value.Iri text) st r is rows e =
      let i = bound (put_iri o H text st) (λ (i : Ids × State). Ok (Term.Iri i.0, i.1)) r e in
      let same : ◌≡◌ {A = Term × State} (Term.Iri i.value.0, i.value.1) r = let h = i.then in cc in
      subst (λ (q : Term × State). AreRows q.1.entries × IsGraph q.0) same (iri_put text st i.value is rows i.was)
  graph_put (Value.Bnode label) st r is rows e =
      let same : ◌≡◌ {A = Term × State} (Term.Bnode label, st) r = cc in
      subst (λ (q : Term × State). AreRows q.1.entries × IsGraph q.0) same (rows, is)
  graph_put (Value.Literal lex tail) st r is rows e =
      let t = bound (put_tail o H tail st) (λ (t : Ending × State). Ok (Term.Literal lex t.0, t.1)) r e in
      let put = tail_put tail st t.value is.1 rows t.was in
      let same : ◌≡◌ {A = Term × State} (Term.Literal lex t.value.0, t.value.1) r = let h = t.then in cc in
      subst (λ (q : Term × State). AreRows q.1.entries × IsGraph q.0) same (put.0, (is.0, put.1))
  graph_put (Value.Nested s p ob) st r is rows e = absurd is
  graph_put Value.Default st r is rows e =
      let same : ◌≡◌ {A = Term × State} (Term.Default, st) r = cc in
      subst (λ (q : Term × State). AreRows q.1.entries × IsGraph q.0) same (rows, tt)

  -- a position, whatever its terms may be
  at_put : (Is : Term → Type 0) (x : Position) (v : Value) (st : State) (r : Term × State) → Is Term.Unset → AreRows st.entries → (put_term o H v st ≡ Ok r → AreRows r.1.entries × Is r.0) → put_at o H x v st ≡ Ok r → AreRows r.1.entries × Is r.0
  unfolding put_at
  at_put Is x v st r unset rows put e = by_test (is_value v (last_term x H)) e
    where
      by_test : (b : Bool) → (if b then Ok (Term.Unset, st) else put_term o H v st) ≡ Ok r → AreRows r.1.entries × Is r.0
      by_test true e =
          let same : ◌≡◌ {A = Term × State} (Term.Unset, st) r = cc in
          subst (λ (q : Term × State). AreRows q.1.entries × Is q.0) same (rows, unset)
      by_test false e = put e

  position_put : (x : Position) (v : Value) (st : State) (r : Term × State) → IsProper 32 v → AreRows st.entries → put_at o H x v st ≡ Ok r → AreRows r.1.entries × IsTerm 32 r.0
  position_put x v st r is rows e = at_put (IsTerm 32) x v st r tt rows (term_put v 32 st r is rows) e

  item_put : (i : Item) (rs : List Row) → IsProperItem i → item_rows o H i ≡ Ok rs → AreRows rs
  unfolding item_rows
  item_put (Item.Triple s p ob) rs is e =
      let a = bound (put_at o H Position.Subject s (start H)) (λ (a : Term × State). put_at o H Position.Predicate p a.1 >>= λ (b : Term × State). put_at o H Position.Object ob b.1 >>= λ (c : Term × State). Ok (Row.Triple a.0 b.0 c.0 ∷ c.1.entries)) rs e in
      let b = bound (put_at o H Position.Predicate p a.value.1) (λ (b : Term × State). put_at o H Position.Object ob b.1 >>= λ (c : Term × State). Ok (Row.Triple a.value.0 b.0 c.0 ∷ c.1.entries)) rs a.then in
      let c = bound (put_at o H Position.Object ob b.value.1) (λ (c : Term × State). Ok (Row.Triple a.value.0 b.value.0 c.0 ∷ c.1.entries)) rs b.then in
      let same : ◌≡◌ {A = List Row} (Row.Triple a.value.0 b.value.0 c.value.0 ∷ c.value.1.entries) rs = let h = c.then in cc in
      let first = position_put Position.Subject s (start H) a.value is.0 tt a.was in
      let second = position_put Position.Predicate p a.value.1 b.value is.1 first.0 b.was in
      let third = position_put Position.Object ob b.value.1 c.value is.2 second.0 c.was in
      subst AreRows same ((first.1, second.1, third.1), third.0)
  item_put (Item.Quad s p ob g) rs is e =
      let a = bound (put_at o H Position.Subject s (start H)) (λ (a : Term × State). put_at o H Position.Predicate p a.1 >>= λ (b : Term × State). put_at o H Position.Object ob b.1 >>= λ (c : Term × State). put_at o H Position.Graph g c.1 >>= λ (d : Term × State). Ok (Row.Quad a.0 b.0 c.0 d.0 ∷ d.1.entries)) rs e in
      let b = bound (put_at o H Position.Predicate p a.value.1) (λ (b : Term × State). put_at o H Position.Object ob b.1 >>= λ (c : Term × State). put_at o H Position.Graph g c.1 >>= λ (d : Term × State). Ok (Row.Quad a.value.0 b.0 c.0 d.0 ∷ d.1.entries)) rs a.then in
      let c = bound (put_at o H Position.Object ob b.value.1) (λ (c : Term × State). put_at o H Position.Graph g c.1 >>= λ (d : Term × State). Ok (Row.Quad a.value.0 b.value.0 c.0 d.0 ∷ d.1.entries)) rs b.then in
      let d = bound (put_at o H Position.Graph g c.value.1) (λ (d : Term × State). Ok (Row.Quad a.value.0 b.value.0 c.value.0 d.0 ∷ d.1.entries)) rs c.then in
      let same : ◌≡◌ {A = List Row} (Row.Quad a.value.0 b.value.0 c.value.0 d.value.0 ∷ d.value.1.entries) rs = let h = d.then in cc in
      let first = position_put Position.Subject s (start H) a.value is.0 tt a.was in
      let second = position_put Position.Predicate p a.value.1 b.value is.1 first.0 b.was in
      let third = position_put Position.Object ob b.value.1 c.value is.2 second.0 c.was in
      let fourth = at_put IsGraph Position.Graph g c.value.1 d.value tt third.0 (graph_put g c.value.1 d.value is.3 third.0) d.was in
      subst AreRows same ((first.1, second.1, third.1, fourth.1), fourth.0)
  item_put (Item.Namespace name iri) rs is e =
      let i = bound (put_iri o H iri (start H)) (λ (i : Ids × State). Ok (Row.Namespace name (Some i.0) ∷ i.1.entries)) rs e in
      let same : ◌≡◌ {A = List Row} (Row.Namespace name (Some i.value.0) ∷ i.value.1.entries) rs = let h = i.then in cc in
      let put = iri_put iri (start H) i.value is.1 tt i.was in
      subst AreRows same ((is.0, put.1), put.0)

rows_reversed : (rs qs : List Row) → AreRows rs → AreRows qs → AreRows (reverse_aux rs qs)
rows_reversed [] qs a b = b
rows_reversed (r ∷ rs) qs a b = rows_reversed rs (r ∷ qs) a.1 (a.0, b)

pub each_put : (o : StreamOptions) (H : History) (is : List Item) (rss : List (List Row)) → AreSmall o → AllByRecursion IsProperItem is → each_item o H is ≡ Ok rss → AllByRecursion AreRows rss
unfolding each_item
each_put o H [] rss sizes all e =
    let same : [] ≡ rss = cc in
    subst (λ (rows : List (List Row)). AllByRecursion AreRows rows) same tt
each_put o H (i ∷ is) rss sizes all e =
    let rs = bound (item_rows o H i) (λ (rs : List Row). each_item o (rs ++ H) is >>= λ (rest : List (List Row)). Ok (reverse rs ∷ rest)) rss e in
    let rest = bound (each_item o (rs.value ++ H) is) (λ (rest : List (List Row)). Ok (reverse rs.value ∷ rest)) rss rs.then in
    let same : reverse rs.value ∷ rest.value ≡ rss = let h = rest.then in cc in
    subst (λ (rows : List (List Row)). AllByRecursion AreRows rows) same
    (rows_reversed rs.value [] (item_put o H sizes i rs.value all.0 rs.was) tt, each_put o (rs.value ++ H) is rest.value sizes all.1 rest.was)

-- proper items have the tags that they must
value_tags : (v : Value) (depth : ℕ) → IsProper depth v → HasTags v
value_tags (Value.Iri t) depth is = tt
value_tags (Value.Bnode t) depth is = tt
value_tags (Value.Literal lex Tail.Simple) depth is = tt
value_tags (Value.Literal lex (Tail.Lang tag)) depth is = is.1.1
value_tags (Value.Literal lex (Tail.Typed iri)) depth is = tt
value_tags (Value.Nested s p o) zero is = absurd is
value_tags (Value.Nested s p o) (suc depth) is = (value_tags s depth is.0, value_tags p depth is.1, value_tags o depth is.2)
value_tags Value.Default depth is = tt

graph_tags : (v : Value) → IsProperGraph v → HasTags v
graph_tags (Value.Iri t) is = tt
graph_tags (Value.Bnode t) is = tt
graph_tags (Value.Literal lex Tail.Simple) is = tt
graph_tags (Value.Literal lex (Tail.Lang tag)) is = is.1.1
graph_tags (Value.Literal lex (Tail.Typed iri)) is = tt
graph_tags (Value.Nested s p o) is = absurd is
graph_tags Value.Default is = tt

pub items_tags : (is : List Item) → AllByRecursion IsProperItem is → AllByRecursion ItemHasTags is
items_tags [] all = tt
items_tags (Item.Triple s p o ∷ is) all = ((value_tags s 32 all.0.0, value_tags p 32 all.0.1, value_tags o 32 all.0.2), items_tags is all.1)
items_tags (Item.Quad s p o g ∷ is) all = ((value_tags s 32 all.0.0, value_tags p 32 all.0.1, value_tags o 32 all.0.2, graph_tags g all.0.3), items_tags is all.1)
items_tags (Item.Namespace name iri ∷ is) all = (tt, items_tags is all.1)
