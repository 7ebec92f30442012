-- Rows whose terms may stand where they do.
use Rattle.std.proofs.Common.{◌≡◌, Bool, true, false, not, ◌&&◌, List, Option, is_some, Ok, refl, ap, sym, ◌∙◌, cond}
use Rattle.jl_base.specs.Results.{some_or, refuse_if}
use Rattle.jl_base.specs.Terms.{Value, Item}
use Rattle.jl_base.specs.declared.kind.Kind.{Kind}
use Rattle.jl_base.specs.declared.kind.Kind.TheVariants.{NoStar, NotPlain, NoTerm, GraphOpen}
use Rattle.jl_wire.proofs.Bound.{bound}
use Rattle.jl_rows.specs.Written.{Ids, Term, StreamOptions, Row}
use Rattle.jl_rows.specs.History.{History, seen_after, seen_in}
use Rattle.jl_rows.specs.Values.{Slots, Position, value, is_unset, slots_of, last_term, open_graph}
use Rattle.jl_rows.specs.Decoder.{is_predicate, is_object, refused_if, guarded, row_guarded, read_under, term_at, said_after, graph_around}

-- what was had wasn't refused
passed : (b : Bool) (k : Kind) (t : Term) (slots : Slots) (seen : List Ids) (v : Value) → value slots seen (refused_if b k t) ≡ Ok v → b ≡ false
passed true k t slots seen v e = absurd (cc)
passed false k t slots seen v e = refl

pub term_kept : (o : StreamOptions) (x : Position) (t : Term) (slots : Slots) (seen : List Ids) (v : Value) → value slots seen (guarded o x t) ≡ Ok v → guarded o x t ≡ t
term_kept o x Term.Unset slots seen v e = refl
term_kept o x (Term.Iri i) slots seen v e = refl
term_kept o x (Term.Bnode l) slots seen v e = ap (λ b. refused_if b NotPlain (Term.Bnode l)) (passed (not o.generalized && is_predicate x) NotPlain (Term.Bnode l) slots seen v e)
term_kept o x (Term.Literal l y) slots seen v e = ap (λ b. refused_if b NotPlain (Term.Literal l y)) (passed (not o.generalized && not (is_object x)) NotPlain (Term.Literal l y) slots seen v e)
term_kept o x (Term.Nested a b c) slots seen v e =
    let all = Term.Nested (guarded o Position.Subject a) (guarded o Position.Predicate b) (guarded o Position.Object c) in
    let star : not o.star ≡ false = passed (not o.star) NoStar (refused_if (not o.generalized && is_predicate x) NotPlain all) slots seen v e in
    let inner : value slots seen (refused_if (not o.generalized && is_predicate x) NotPlain all) ≡ Ok v = sym (ap (λ d. value slots seen (refused_if d NoStar (refused_if (not o.generalized && is_predicate x) NotPlain all))) star) ∙ e in
    let plain : (not o.generalized && is_predicate x) ≡ false = passed (not o.generalized && is_predicate x) NotPlain all slots seen v inner in
    let had : value slots seen all ≡ Ok v = sym (ap (λ d. value slots seen (refused_if d NotPlain all)) plain) ∙ inner in
    let first = bound (value slots seen (guarded o Position.Subject a)) _ v had in
    let second = bound (value slots (seen_after (guarded o Position.Subject a) seen) (guarded o Position.Predicate b)) _ v first.next in
    let third = bound (value slots (seen_after (guarded o Position.Predicate b) (seen_after (guarded o Position.Subject a) seen)) (guarded o Position.Object c)) _ v second.next in
    let s = term_kept o Position.Subject a slots seen first.value first.was in
    let p = term_kept o Position.Predicate b slots (seen_after (guarded o Position.Subject a) seen) second.value second.was in
    let q = term_kept o Position.Object c slots (seen_after (guarded o Position.Predicate b) (seen_after (guarded o Position.Subject a) seen)) third.value third.was in
    rw (star, plain, s, p, q) refl
term_kept o x Term.Default slots seen v e = ap (λ b. refused_if b NotPlain Term.Default) (passed (not o.generalized && is_predicate x) NotPlain Term.Default slots seen v e)
term_kept o x (Term.Refused k) slots seen v e = refl

-- a term that is set stays so
still : (b : Bool) (k : Kind) (t : Term) → is_unset t ≡ false → is_unset (refused_if b k t) ≡ false
still true k t set = refl
still false k t set = set

unset_kept : (o : StreamOptions) (x : Position) (t : Term) → is_unset (guarded o x t) ≡ true → guarded o x t ≡ t
unset_kept o x Term.Unset e = refl
unset_kept o x (Term.Iri i) e = refl
unset_kept o x (Term.Bnode l) e = absurd (let n = sym (still (not o.generalized && is_predicate x) NotPlain (Term.Bnode l) refl) ∙ e in (cc))
unset_kept o x (Term.Literal l y) e = absurd (let n = sym (still (not o.generalized && not (is_object x)) NotPlain (Term.Literal l y) refl) ∙ e in (cc))
unset_kept o x (Term.Nested a b c) e = absurd (
    let all = Term.Nested (guarded o Position.Subject a) (guarded o Position.Predicate b) (guarded o Position.Object c) in
    let n = sym (still (not o.star) NoStar (refused_if (not o.generalized && is_predicate x) NotPlain all) (still (not o.generalized && is_predicate x) NotPlain all refl)) ∙ e in
    (cc))
unset_kept o x Term.Default e = absurd (let n = sym (still (not o.generalized && is_predicate x) NotPlain Term.Default refl) ∙ e in (cc))
unset_kept o x (Term.Refused k) e = refl

-- a position of a row without a fault
by_flag : (o : StreamOptions) (x : Position) (t : Term) (before : Option Value) (slots : Slots) (seen : List Ids) (v : Value) (u : Bool) → is_unset (guarded o x t) ≡ u
    → cond u (some_or before NoTerm) (value slots seen (guarded o x t)) ≡ Ok v → guarded o x t ≡ t
by_flag o x t before slots seen v true is e = unset_kept o x t is
by_flag o x t before slots seen v false is e = term_kept o x t slots seen v e

at_kept : (o : StreamOptions) (x : Position) (t : Term) (before : Option Value) (slots : Slots) (seen : List Ids) (v : Value)
    → cond (is_unset (guarded o x t)) (some_or before NoTerm) (value slots seen (guarded o x t)) ≡ Ok v → guarded o x t ≡ t
at_kept o x t before slots seen v e = by_flag o x t before slots seen v (is_unset (guarded o x t)) refl e

row_kept : (o : StreamOptions) (r : Row) (H : History) (xs : List Item) → said_after o (row_guarded o r) H ≡ Ok xs → row_guarded o r ≡ r
row_kept o (Row.Options p) H xs e = refl
row_kept o (Row.Entry t id text) H xs e = refl
row_kept o Row.GraphEnd H xs e = refl
row_kept o (Row.Namespace name i) H xs e = refl
row_kept o (Row.GraphStart g) H xs e =
    let first = bound (refuse_if (is_some (open_graph H)) GraphOpen) _ xs e in
    let second = bound (value (slots_of H) (seen_in H) (guarded o Position.Graph g)) _ xs first.next in
    ap Row.GraphStart (term_kept o Position.Graph g (slots_of H) (seen_in H) second.value second.was)
row_kept o (Row.Triple s p ob) H xs e =
    let r = row_guarded o (Row.Triple s p ob) in
    let around = bound (graph_around o H) _ xs e in
    let a = bound (term_at Position.Subject r H) _ xs around.next in
    let b = bound (term_at Position.Predicate r H) _ xs a.next in
    let c = bound (term_at Position.Object r H) _ xs b.next in
    let one = seen_after (guarded o Position.Subject s) (seen_in H) in
    let two = seen_after (guarded o Position.Predicate p) one in
    let x = at_kept o Position.Subject s (last_term Position.Subject H) (slots_of H) (seen_in H) a.value a.was in
    let y = at_kept o Position.Predicate p (last_term Position.Predicate H) (slots_of H) one b.value b.was in
    let z = at_kept o Position.Object ob (last_term Position.Object H) (slots_of H) two c.value c.was in
    rw (x, y, z) refl
row_kept o (Row.Quad s p ob g) H xs e =
    let r = row_guarded o (Row.Quad s p ob g) in
    let a = bound (term_at Position.Subject r H) _ xs e in
    let b = bound (term_at Position.Predicate r H) _ xs a.next in
    let c = bound (term_at Position.Object r H) _ xs b.next in
    let d = bound (term_at Position.Graph r H) _ xs c.next in
    let one = seen_after (guarded o Position.Subject s) (seen_in H) in
    let two = seen_after (guarded o Position.Predicate p) one in
    let three = seen_after (guarded o Position.Object ob) two in
    let x = at_kept o Position.Subject s (last_term Position.Subject H) (slots_of H) (seen_in H) a.value a.was in
    let y = at_kept o Position.Predicate p (last_term Position.Predicate H) (slots_of H) one b.value b.was in
    let z = at_kept o Position.Object ob (last_term Position.Object H) (slots_of H) two c.value c.was in
    let w = at_kept o Position.Graph g (last_term Position.Graph H) (slots_of H) three d.value d.was in
    rw (x, y, z, w) refl

-- a row without a fault is what it was read as
by_strict : (b : Bool) (o : StreamOptions) (r : Row) (H : History) (xs : List Item) → said_after o (cond b (row_guarded o r) r) H ≡ Ok xs → cond b (row_guarded o r) r ≡ r
by_strict true o r H xs e = row_kept o r H xs e
by_strict false o r H xs e = refl

pub read_kept : (o : StreamOptions) (r : Row) (H : History) (xs : List Item) → said_after o (read_under o r) H ≡ Ok xs → read_under o r ≡ r
read_kept o r H xs e = by_strict o.strict o r H xs e
