-- What is found to be the same is the same.
use Rattle.std.proofs.Common.{◌≡◌, ℕ, true, ◌&&◌, List, Option, Some, None, refl, ap, sym}
use Rattle.std.specs.Str.{bytes_eq}
use Rattle.std.proofs.lemmas.Bool.{and_parts}
use Rattle.std.proofs.lemmas.Slice.Eq.{bytes_eq-Decides}
use Rattle.jl_base.specs.Terms.{Tail, Value}
use Rattle.jl_encoding.specs.Sameness.{is_same_tail, is_same_value, is_text, is_value}

same_bytes : (a b : List ℕ) → bytes_eq a b ≡ true → a ≡ b
same_bytes a b h = (bytes_eq-Decides a b).0 h

same_tail : (a b : Tail) → is_same_tail a b ≡ true → a ≡ b
same_tail Tail.Simple Tail.Simple h = refl
same_tail (Tail.Lang a) (Tail.Lang b) h = ap Tail.Lang (same_bytes a b h)
same_tail (Tail.Typed a) (Tail.Typed b) h = ap Tail.Typed (same_bytes a b h)
same_tail a b h = cc

pub same_value : (a b : Value) → is_same_value a b ≡ true → a ≡ b
same_value (Value.Iri a) (Value.Iri b) h = ap Value.Iri (same_bytes a b h)
same_value (Value.Bnode a) (Value.Bnode b) h = ap Value.Bnode (same_bytes a b h)
same_value (Value.Literal a t) (Value.Literal b u) h =
    let p = and_parts (bytes_eq a b) (is_same_tail t u) h in
    let lex : a ≡ b = same_bytes a b p.0 in
    let tail : t ≡ u = same_tail t u p.1 in
    cc
same_value (Value.Nested s p o) (Value.Nested t q u) h =
    let a = and_parts (is_same_value s t) (is_same_value p q && is_same_value o u) h in
    let b = and_parts (is_same_value p q) (is_same_value o u) a.1 in
    let first : s ≡ t = same_value s t a.0 in
    let second : p ≡ q = same_value p q b.0 in
    let third : o ≡ u = same_value o u b.1 in
    cc
same_value Value.Default Value.Default h = refl
same_value a b h = cc

pub text_is : (t : List ℕ) (found : Option (List ℕ)) → is_text t found ≡ true → found ≡ Some t
text_is t None h = cc
text_is t (Some u) h = ap Some (sym (same_bytes t u h))

pub value_is : (v : Value) (found : Option Value) → is_value v found ≡ true → found ≡ Some v
value_is v None h = cc
value_is v (Some u) h = ap Some (sym (same_value v u h))
