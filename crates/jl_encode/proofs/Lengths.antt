-- Lengths up to a limit, added one to another.
use Rattle.std.proofs.Common.{◌≡◌, ℕ, ◌+◌, ◌^◌, Bool, true, false, List, ◌++◌, length, nat_lt, refl, ap, sym, ◌∙◌, arith, ltb-true, lt-ltb, length-append, append-nil}
use Rattle.jl_encoding.specs.Limits.{most_item_bytes}
use Rattle.jl_rows.specs.Written.{Ending}
use Rattle.jl_spell.specs.Fields.{Bytes, front_of, field_of}
use Rattle.jl_spell.specs.Messages.{unless_empty}
use Rattle.jl_spell.specs.Rows.{literal_of}
use Rattle.jl_spell.proofs.Parts.{simple_parts, tagged_parts, typed_parts}
use Rattle.jl_encode.specs.Spelling.{limited, joint, in_field, ending_bytes}

pub joint_limited : (a b : ℕ) → joint (limited a) (limited b) ≡ limited (a + b)
joint_limited a b = by_tests (nat_lt most_item_bytes a) (nat_lt most_item_bytes b) refl refl
  where
    by_tests : (x y : Bool) → nat_lt most_item_bytes a ≡ x → nat_lt most_item_bytes b ≡ y → joint (limited a) (limited b) ≡ limited (a + b)
    by_tests false false p q = rw (p, q) refl
    by_tests false true p q = rw (p, q, lt-ltb most_item_bytes (a + b) (omega (arith, ltb-true most_item_bytes b q))) refl
    by_tests true y p q = rw (p, lt-ltb most_item_bytes (a + b) (omega (arith, ltb-true most_item_bytes a p))) refl

pub joint_bytes : (xs ys : List ℕ) → joint (limited (length xs)) (limited (length ys)) ≡ limited (length (xs ++ ys))
joint_bytes xs ys = joint_limited (length xs) (length ys) ∙ ap limited (sym (length-append xs ys))

pub field_bytes : (number : ℕ) (t : List ℕ) → in_field number (limited (length t)) ≡ limited (length (field_of number (Bytes t)))
unfolding field_of
field_bytes number t = by_test (nat_lt most_item_bytes (length t)) refl
  where
    by_test : (x : Bool) → nat_lt most_item_bytes (length t) ≡ x → in_field number (limited (length t)) ≡ limited (length (field_of number (Bytes t)))
    by_test false p = rw (p, length-append (front_of number (length t)) t) refl
    by_test true p = rw (p, lt-ltb most_item_bytes (length (front_of number (length t) ++ t)) (omega (arith, ltb-true most_item_bytes (length t) p, length-append (front_of number (length t)) t))) refl

pub literal_parts : (lex : List ℕ) (e : Ending) → literal_of lex e ≡ unless_empty 1 lex ++ ending_bytes e
literal_parts lex Ending.Simple = simple_parts lex ∙ sym (append-nil (unless_empty 1 lex))
literal_parts lex (Ending.Lang tag) = tagged_parts lex tag
literal_parts lex (Ending.Typed id) = typed_parts lex id

pub literal_length : (lex : List ℕ) (e : Ending) → joint (limited (length (unless_empty 1 lex))) (limited (length (ending_bytes e))) ≡ limited (length (literal_of lex e))
literal_length lex e = joint_bytes (unless_empty 1 lex) (ending_bytes e) ∙ ap (λ (xs : List ℕ). limited (length xs)) (sym (literal_parts lex e))
