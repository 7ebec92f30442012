-- The number of the item that is put stays the same.
use Rattle.std.proofs.Common.{◌≡◌, ℕ, ◌==◌, ◌&&◌, Bool, true, false, not, List, Option, Some, None, if◌then◌else◌, refl, ◌∙◌}
use Rattle.jl_base.specs.Terms.{Tail, Value, Item}
use Rattle.jl_rows.specs.declared.row.Table.{Table}
use Rattle.jl_rows.specs.Written.{Ending, Term, Row}
use Rattle.jl_encoding.specs.Sameness.{is_value}
use Rattle.jl_encoding.specs.Splits.{prefix_of, name_of}
use Rattle.jl_encoding.specs.Terms.{is_empty}
use Rattle.jl_encode.specs.Desks.{Texts, InTable, Desk, in_table, texts_of, with_texts, with_ids, with_hidden}
use Rattle.jl_encode.specs.Putting.{Step, Lasts, at_once, behind, then_put, on_desk, put_text, put_prefix, ids_behind, put_iri, put_tail, put_term, put_unless, put_item}

abbrev pub Keeps : {A : Type 0} → ℕ → Option (Step A) → Type 0
Keeps n None = Unit {0}
Keeps n (Some s) = s.desk.item ≡ n

behind_keeps : {A : Type 0} (n : ℕ) (bytes : List ℕ) (x : Option (Step A)) → Keeps n x → Keeps n (behind bytes x)
behind_keeps n bytes None h = tt
behind_keeps n bytes (Some s) h = h

then_keeps : {A B : Type 0} (n : ℕ) (x : Option (Step A)) (f : A → Desk → Option (Step B)) → Keeps n x → ((a : A) (D : Desk) → D.item ≡ n → Keeps n (f a D)) → Keeps n (then_put x f)
then_keeps n None f h rest = tt
then_keeps n (Some s) f h rest = behind_keeps n s.bytes (f s.answer s.desk) (rest s.answer s.desk h)

texts_keep : (t : Table) (T : Texts) (D : Desk) → (with_texts t T D).item ≡ D.item
texts_keep Table.Name T D = refl
texts_keep Table.Prefix T D = refl
texts_keep Table.Datatype T D = refl

text_keeps : (n : ℕ) (t : Table) (x : List ℕ) (D : Desk) → D.item ≡ n → Keeps n (put_text t x D)
text_keeps n t x D h = by_table (in_table D.item t x (texts_of t D))
  where
    by_table : (r : Option InTable) → Keeps n (on_desk t D r)
    by_table None = tt
    by_table (Some r) = texts_keep t r.texts D ∙ h

prefix_keeps : (n : ℕ) (x : List ℕ) (D : Desk) → D.item ≡ n → Keeps n (put_prefix x D)
prefix_keeps n x D h = by_test (is_empty x && (D.prefix == 0))
  where
    by_test : (b : Bool) → Keeps n (if b then at_once 0 (with_hidden true D) else put_text Table.Prefix x (with_hidden (D.hidden && not (is_empty x)) D))
    by_test true = h
    by_test false = text_keeps n Table.Prefix x (with_hidden (D.hidden && not (is_empty x)) D) h

iri_keeps : (n : ℕ) (text : List ℕ) (D : Desk) → D.item ≡ n → Keeps n (put_iri text D)
iri_keeps n text D h =
    then_keeps n (put_prefix (prefix_of text) D) (λ p D1. then_put (put_text Table.Name (name_of text) D1) (λ m D2. at_once (ids_behind p m D2) (with_ids p m D2))) (prefix_keeps n (prefix_of text) D h)
    (λ p D1 h1. then_keeps n (put_text Table.Name (name_of text) D1) (λ m D2. at_once (ids_behind p m D2) (with_ids p m D2)) (text_keeps n Table.Name (name_of text) D1 h1) (λ m D2 h2. h2))

tail_keeps : (n : ℕ) (tail : Tail) (D : Desk) → D.item ≡ n → Keeps n (put_tail tail D)
tail_keeps n Tail.Simple D h = h
tail_keeps n (Tail.Lang tag) D h = h
tail_keeps n (Tail.Typed iri) D h = then_keeps n (put_text Table.Datatype iri D) (λ m D1. at_once (Ending.Typed m) D1) (text_keeps n Table.Datatype iri D h) (λ m D1 h1. h1)

term_keeps : (n : ℕ) (v : Value) (D : Desk) → D.item ≡ n → Keeps n (put_term v D)
term_keeps n (Value.Iri text) D h = then_keeps n (put_iri text D) (λ i D1. at_once (Term.Iri i) D1) (iri_keeps n text D h) (λ i D1 h1. h1)
term_keeps n (Value.Bnode label) D h = h
term_keeps n (Value.Literal lex tail) D h = then_keeps n (put_tail tail D) (λ e D1. at_once (Term.Literal lex e) D1) (tail_keeps n tail D h) (λ e D1 h1. h1)
term_keeps n (Value.Nested s p o) D h =
    then_keeps n (put_term s D) (λ a D1. then_put (put_term p D1) (λ b D2. then_put (put_term o D2) (λ c D3. at_once (Term.Nested a b c) D3))) (term_keeps n s D h)
    (λ a D1 h1. then_keeps n (put_term p D1) (λ b D2. then_put (put_term o D2) (λ c D3. at_once (Term.Nested a b c) D3)) (term_keeps n p D1 h1)
    (λ b D2 h2. then_keeps n (put_term o D2) (λ c D3. at_once (Term.Nested a b c) D3) (term_keeps n o D2 h2) (λ c D3 h3. h3)))
term_keeps n Value.Default D h = h

unless_keeps : (n : ℕ) (last : Option Value) (v : Value) (D : Desk) → D.item ≡ n → Keeps n (put_unless last v D)
unless_keeps n last v D h = by_test (is_value v last)
  where
    by_test : (b : Bool) → Keeps n (if b then at_once Term.Unset D else put_term v D)
    by_test true = h
    by_test false = term_keeps n v D h

pub item_keeps : (n : ℕ) (i : Item) (L : Lasts) (D : Desk) → D.item ≡ n → Keeps n (put_item i L D)
item_keeps n (Item.Triple s p o) L D h =
    then_keeps n (put_unless L.subject s D) (λ a D1. then_put (put_unless L.predicate p D1) (λ b D2. then_put (put_unless L.object o D2) (λ c D3. at_once (Row.Triple a b c) D3))) (unless_keeps n L.subject s D h)
    (λ a D1 h1. then_keeps n (put_unless L.predicate p D1) (λ b D2. then_put (put_unless L.object o D2) (λ c D3. at_once (Row.Triple a b c) D3)) (unless_keeps n L.predicate p D1 h1)
    (λ b D2 h2. then_keeps n (put_unless L.object o D2) (λ c D3. at_once (Row.Triple a b c) D3) (unless_keeps n L.object o D2 h2) (λ c D3 h3. h3)))
item_keeps n (Item.Quad s p o g) L D h =
    then_keeps n (put_unless L.subject s D) (λ a D1. then_put (put_unless L.predicate p D1) (λ b D2. then_put (put_unless L.object o D2) (λ c D3. then_put (put_unless L.graph g D3) (λ d D4. at_once (Row.Quad a b c d) D4)))) (unless_keeps n L.subject s D h)
    (λ a D1 h1. then_keeps n (put_unless L.predicate p D1) (λ b D2. then_put (put_unless L.object o D2) (λ c D3. then_put (put_unless L.graph g D3) (λ d D4. at_once (Row.Quad a b c d) D4))) (unless_keeps n L.predicate p D1 h1)
    (λ b D2 h2. then_keeps n (put_unless L.object o D2) (λ c D3. then_put (put_unless L.graph g D3) (λ d D4. at_once (Row.Quad a b c d) D4)) (unless_keeps n L.object o D2 h2)
    (λ c D3 h3. then_keeps n (put_unless L.graph g D3) (λ d D4. at_once (Row.Quad a b c d) D4) (unless_keeps n L.graph g D3 h3) (λ d D4 h4. h4))))
item_keeps n (Item.Namespace name iri) L D h = then_keeps n (put_iri iri D) (λ i D1. at_once (Row.Namespace name (Some i)) D1) (iri_keeps n iri D h) (λ i D1 h1. h1)
