-- Terms are the same exactly where the values that they stand for are.
use Rattle.std.proofs.Common.{◌≡◌, ◌∙◌, ◌↔◌, ◌&&◌, Bool, true, false, IsTrue, List, ℕ, refl, sym, ap}
use Rattle.std.specs.Str.{bytes_eq}
use Rattle.std.proofs.lemmas.Bool.{and_from}
use Rattle.std.proofs.lemmas.Slice.Eq.{bytes_eq-Decides}
use Rattle.jl_base.specs.Items.{value_of, tail_of}
use Rattle.jl_base.specs.Terms as said
use Rattle.jl_base.specs.declared.term.Tail.{Tail}
use Rattle.jl_base.specs.declared.term.Tail.TheVariants.{Simple, Lang, Typed}
use Rattle.jl_base.specs.declared.term.Term.{Term, Iri, Bnode, Literal, Default, Triple', end_of-Three, more_of-Three}
use Rattle.jl_encoding.specs.Sameness.{is_same_tail, is_same_value}
use Rattle.jl_encoding.proofs.SameLaws.{same_value}

tail_same : (a b : Tail) → tail_of a ≡ tail_of b → a ≡ b
tail_same Simple Simple e = refl
tail_same (Lang a) (Lang b) e = cc
tail_same (Typed a) (Typed b) e = cc
tail_same a b e = cc

pub term_same : (a b : Term) → value_of a ≡ value_of b → a ≡ b
unfolding Rattle.jl_base.specs.declared.term.Term.TheBlock.hidden-the_row-Three-0 denote.Hole.Carrier.hidden
term_same (Iri a) (Triple' y (more_of-Three s p o rest)) e = cc
term_same (Bnode a) (Triple' y (more_of-Three s p o rest)) e = cc
term_same (Literal a t) (Triple' y (more_of-Three s p o rest)) e = cc
term_same Default (Triple' y (more_of-Three s p o rest)) e = cc
term_same (Triple' x (more_of-Three s p o rest)) (Iri b) e = cc
term_same (Triple' x (more_of-Three s p o rest)) (Bnode b) e = cc
term_same (Triple' x (more_of-Three s p o rest)) (Literal b u) e = cc
term_same (Triple' x (more_of-Three s p o rest)) Default e = cc
term_same (Triple' x (more_of-Three s p o end_of-Three)) (Triple' y (more_of-Three t q u end_of-Three)) e =
    let first : s ≡ t = term_same s t cc in
    let second : p ≡ q = term_same p q cc in
    let third : o ≡ u = term_same o u cc in
    (λ i. Triple' x (more_of-Three (first i) (second i) (third i) end_of-Three))
term_same (Literal a t) (Literal b u) e =
    let tail : t ≡ u = tail_same t u cc in
    let lex : a ≡ b = cc in
    cc
term_same a b e = cc

bytes_self : (t : List ℕ) → bytes_eq t t ≡ true
bytes_self t = (bytes_eq-Decides t t).1 refl

tail_self : (t : said.Tail) → is_same_tail t t ≡ true
tail_self said.Simple = refl
tail_self (said.Lang t) = bytes_self t
tail_self (said.Typed t) = bytes_self t

value_self : (v : said.Value) → is_same_value v v ≡ true
value_self (said.Iri t) = bytes_self t
value_self (said.Bnode t) = bytes_self t
value_self (said.Literal t e) = and_from (bytes_eq t t) (is_same_tail e e) (bytes_self t) (tail_self e)
value_self (said.Nested s p o) = and_from (is_same_value s s) (is_same_value p p && is_same_value o o) (value_self s) (and_from (is_same_value p p) (is_same_value o o) (value_self p) (value_self o))
value_self said.Default = refl

-- by an answer that tells whether the terms are the same
pub is_same : (last term : Term) (r : Bool) → (IsTrue r ↔ (last ≡ term)) → is_same_value (value_of term) (value_of last) ≡ r
is_same last term true told = ap (λ (t : Term). is_same_value (value_of term) (value_of t)) (told.0 refl) ∙ value_self (value_of term)
is_same last term false told = by_test (is_same_value (value_of term) (value_of last)) (λ h. told.1 (sym (term_same term last (same_value (value_of term) (value_of last) h))))
  where
    by_test : (b : Bool) → (b ≡ true → false ≡ true) → b ≡ false
    by_test true h = sym (h refl)
    by_test false h = refl
