-- Messages that are written part by part.
use Rattle.std.proofs.Common.{◌≡◌, ℕ, ◌+◌, ◌==◌, false, List, [], ◌∷◌, ◌++◌, length, Result, Ok, Err, OnOk, refl, ap, sym, ◌∙◌, arith, append_assoc, length-append}
use Rattle.jl_rows.specs.declared.message.Message.{Message}
use Rattle.jl_rows.specs.declared.row.Table.{Table}
use Rattle.jl_rows.specs.Written.{Ids, Ending, Row}
use Rattle.jl_spell.specs.Fields.{Number, Bytes, front_of, field_of}
use Rattle.jl_spell.specs.Messages.{message_of, unless_0, unless_empty}
use Rattle.jl_spell.specs.Rows.{iri_of, literal_of, number, bytes, entry_number, row_of}
use Rattle.jl_spell.proofs.Parts.{iri_parts, entry_parts, tagged_parts, typed_parts}

-- what holds of an answer
pub on_ok : {A E : Type 0} {P Q : Type 0} (r : Result A E) → OnOk r P → (P → Q) → OnOk r Q
on_ok (Ok x) h f = f h
on_ok (Err e) h f = tt

pub iri_length : (i : Ids) (a b : ℕ) → a ≡ length (unless_0 1 i.prefix) → b ≡ length (unless_0 2 i.name) → a + b ≡ length (iri_of i)
iri_length i a b first second = omega (arith, first, second, ap length (iri_parts i), length-append (unless_0 1 i.prefix) (unless_0 2 i.name))

pub text_length : (field : ℕ) (t : List ℕ) (a : ℕ) → false ≡ (length t == 0) → a ≡ length (front_of field (length t)) → a + length t ≡ length (unless_empty field t)
unfolding field_of
text_length field [] a some front = absurd (cc)
text_length field (b ∷ bs) a some front = omega (arith, front, length-append (front_of field (length (b ∷ bs))) (b ∷ bs))

-- a message in a field, of one part or of two
pub in_field : (field size : ℕ) (old first second message : List ℕ) → first ≡ old ++ front_of field size → size ≡ length message → second ≡ first ++ message → second ≡ old ++ field_of field (Bytes message)
unfolding field_of
in_field field size old first second message front is last = rw (last, front, is) (append_assoc old (front_of field (length message)) message)

pub two_in_field : (field size : ℕ) (old first second third message a b : List ℕ) → message ≡ a ++ b → first ≡ old ++ front_of field size → size ≡ length message → second ≡ first ++ a → third ≡ second ++ b → third ≡ old ++ field_of field (Bytes message)
two_in_field field size old first second third message a b parts front is part last =
    in_field field size old first third message front is (last ∙ ap (λ (xs : List ℕ). xs ++ b) part ∙ append_assoc first a b ∙ ap (λ (xs : List ℕ). first ++ xs) (sym parts))

pub tagged_length : (lex tag : List ℕ) (a b : ℕ) → a ≡ length (unless_empty 1 lex) → b ≡ length (front_of 2 (length tag)) → a + b + length tag ≡ length (literal_of lex (Ending.Lang tag))
unfolding field_of
tagged_length lex tag a b first second =
    omega (arith, first, second, ap length (tagged_parts lex tag), length-append (unless_empty 1 lex) (field_of 2 (Bytes tag)), length-append (front_of 2 (length tag)) tag)

pub typed_length : (lex : List ℕ) (id a b : ℕ) → a ≡ length (unless_empty 1 lex) → b ≡ length (field_of 3 (Number id)) → a + b ≡ length (literal_of lex (Ending.Typed id))
typed_length lex id a b first second = omega (arith, first, second, ap length (typed_parts lex id), length-append (unless_empty 1 lex) (field_of 3 (Number id)))

pub entry_length : (id : ℕ) (text : List ℕ) (a b : ℕ) → a ≡ length (unless_0 1 id) → b ≡ length (unless_empty 2 text) → a + b ≡ length (message_of Message.Entry (number id ∷ bytes text ∷ []))
entry_length id text a b first second = omega (arith, first, second, ap length (entry_parts id text), length-append (unless_0 1 id) (unless_empty 2 text))

pub entry_row : (t : Table) (id : ℕ) (text : List ℕ) → row_of (Row.Entry t id text) ≡ field_of (entry_number t) (Bytes (message_of Message.Entry (number id ∷ bytes text ∷ [])))
unfolding row_of
entry_row t id text = refl

-- a message in a field of a message in a field
pub in_field_twice : (outer inner size whole : ℕ) (old zeroth first second third message a b : List ℕ) → message ≡ a ++ b → size ≡ length message → whole ≡ length (field_of inner (Bytes message)) → zeroth ≡ old ++ front_of outer whole
    → first ≡ zeroth ++ front_of inner size → second ≡ first ++ a → third ≡ second ++ b → third ≡ old ++ field_of outer (Bytes (field_of inner (Bytes message)))
in_field_twice outer inner size whole old zeroth first second third message a b parts is sum start front part last =
    in_field outer whole old zeroth third (field_of inner (Bytes message)) start sum (two_in_field inner size zeroth first second third message a b parts front is part last)

pub field_length : (field size front : ℕ) (message : List ℕ) → size ≡ length message → front ≡ length (front_of field size) → front + size ≡ length (field_of field (Bytes message))
unfolding field_of
field_length field size front message is start = let f : front ≡ length (front_of field (length message)) = rw is at start in omega (arith, is, f, length-append (front_of field (length message)) message)
