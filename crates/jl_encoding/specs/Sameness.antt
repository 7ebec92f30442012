-- When two values are the same.
use Rattle.std.specs.Prelude.{ℕ, Bool, true, false, ◌&&◌, List, Option, Some, None}
use Rattle.std.specs.Str.{bytes_eq}
use Rattle.jl_base.specs.Terms.{Tail, Value}

abbrev pub is_same_tail : Tail → Tail → Bool
is_same_tail Tail.Simple Tail.Simple = true
is_same_tail (Tail.Lang a) (Tail.Lang b) = bytes_eq a b
is_same_tail (Tail.Typed a) (Tail.Typed b) = bytes_eq a b
is_same_tail _ _ = false

-- A simple literal and one of xsd:string differ.
abbrev pub is_same_value : Value → Value → Bool
is_same_value (Value.Iri a) (Value.Iri b) = bytes_eq a b
is_same_value (Value.Bnode a) (Value.Bnode b) = bytes_eq a b
is_same_value (Value.Literal a t) (Value.Literal b u) = bytes_eq a b && is_same_tail t u
is_same_value (Value.Nested s p o) (Value.Nested t q u) = is_same_value s t && (is_same_value p q && is_same_value o u)
is_same_value Value.Default Value.Default = true
is_same_value _ _ = false

-- a text, or a value, is the one that stands somewhere, where one does
abbrev pub is_text : List ℕ → Option (List ℕ) → Bool
is_text t None = false
is_text t (Some u) = bytes_eq t u

abbrev pub is_value : Value → Option Value → Bool
is_value v None = false
is_value v (Some u) = is_same_value v u
