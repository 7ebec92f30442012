-- What is within the limit, part by part.
use Rattle.std.proofs.Common.{◌≡◌, ℕ, ◌^◌, ◌<◌, ◌≤◌, Bool, true, false, List, [], ◌∷◌, ◌++◌, length, Some, None, nat_lt, refl, ap, arith, ltb-true, le-ltb, length-append}
use Rattle.jl_encoding.specs.Limits.{most_item_bytes}
use Rattle.jl_rows.specs.Written.{Ending}
use Rattle.jl_spell.specs.Fields.{Bytes, front_of, field_of}
use Rattle.jl_spell.specs.Messages.{unless_empty}
use Rattle.jl_spell.specs.Rows.{literal_of}
use Rattle.jl_encode.specs.Spelling.{limited, ending_bytes}
use Rattle.jl_encode.proofs.Lengths.{literal_parts}

-- a length within the limit is told as it is, and one above it isn't
pub told : (n : ℕ) → n ≤ most_item_bytes → limited n ≡ Some n
told n within = rw (le-ltb most_item_bytes n within) refl

pub untold : (n : ℕ) → limited n ≡ None → most_item_bytes < n
untold n none = by_test (nat_lt most_item_bytes n) refl
  where
    by_test : (b : Bool) → nat_lt most_item_bytes n ≡ b → most_item_bytes < n
    by_test true e = ltb-true most_item_bytes n e
    by_test false e = let some = rw e at none in absurd (cc)

-- what a field holds is within the limit where the field is
pub held_short : (number : ℕ) (t : List ℕ) → length (field_of number (Bytes t)) ≤ most_item_bytes → length t ≤ most_item_bytes
unfolding field_of
held_short number t short = omega (arith, short, length-append (front_of number (length t)) t)

text_short : (number : ℕ) (t : List ℕ) → length t ≤ length (unless_empty number t)
unfolding field_of
text_short number [] = omega arith
text_short number (b ∷ bs) = omega (arith, length-append (front_of number (length (b ∷ bs))) (b ∷ bs))

pub lex_short : (lex : List ℕ) (e : Ending) → length (literal_of lex e) ≤ most_item_bytes → length lex < 2 ^ 32
lex_short lex e short = omega (arith, short, ap length (literal_parts lex e), length-append (unless_empty 1 lex) (ending_bytes e), text_short 1 lex)

pub tag_short : (lex tag : List ℕ) → length (literal_of lex (Ending.Lang tag)) ≤ most_item_bytes → length tag < 2 ^ 32
unfolding field_of
tag_short lex tag short =
    omega (arith, short, ap length (literal_parts lex (Ending.Lang tag)), length-append (unless_empty 1 lex) (ending_bytes (Ending.Lang tag)), length-append (front_of 2 (length tag)) tag)

pub first_short : (xs ys : List ℕ) → length (xs ++ ys) ≤ most_item_bytes → length xs ≤ most_item_bytes
first_short xs ys short = omega (arith, short, length-append xs ys)

pub second_short : (xs ys : List ℕ) → length (xs ++ ys) ≤ most_item_bytes → length ys ≤ most_item_bytes
second_short xs ys short = omega (arith, short, length-append xs ys)
