-- The parts of a message, as code writes them one after another.
use Rattle.std.proofs.Common.{◌≡◌, ℕ, Bool, true, false, List, [], ◌∷◌, ◌++◌, nat_eq, refl, ap, append-nil}
use Rattle.jl_rows.specs.declared.message.Message.{Message}
use Rattle.jl_rows.specs.Written.{Ids, Ending}
use Rattle.jl_spell.specs.Fields.{Number, Bytes, field_of}
use Rattle.jl_spell.specs.Messages.{message_of, unless_0, unless_empty}
use Rattle.jl_spell.specs.Rows.{iri_of, literal_of, number, bytes}

pub iri_parts : (i : Ids) → iri_of i ≡ unless_0 1 i.prefix ++ unless_0 2 i.name
unfolding message_of
iri_parts i = by_zero (nat_eq i.prefix 0) (nat_eq i.name 0) refl refl
  where
    by_zero : (a b : Bool) → nat_eq i.prefix 0 ≡ a → nat_eq i.name 0 ≡ b → iri_of i ≡ unless_0 1 i.prefix ++ unless_0 2 i.name
    by_zero true true p n = rw (p, n) refl
    by_zero true false p n = rw (p, n) (append-nil (field_of 2 (Number i.name)))
    by_zero false true p n = rw (p, n) refl
    by_zero false false p n = rw (p, n) (ap (λ (xs : List ℕ). field_of 1 (Number i.prefix) ++ xs) (append-nil (field_of 2 (Number i.name))))

pub entry_parts : (id : ℕ) (text : List ℕ) → message_of Message.Entry (number id ∷ bytes text ∷ []) ≡ unless_0 1 id ++ unless_empty 2 text
unfolding message_of
entry_parts id text = by_zero (nat_eq id 0) text refl
  where
    by_zero : (a : Bool) (t : List ℕ) → nat_eq id 0 ≡ a → message_of Message.Entry (number id ∷ bytes t ∷ []) ≡ unless_0 1 id ++ unless_empty 2 t
    by_zero true [] e = rw e refl
    by_zero false [] e = rw e refl
    by_zero true (b ∷ bs) e = rw e (append-nil (field_of 2 (Bytes (b ∷ bs))))
    by_zero false (b ∷ bs) e = rw e (ap (λ (xs : List ℕ). field_of 1 (Number id) ++ xs) (append-nil (field_of 2 (Bytes (b ∷ bs)))))

pub simple_parts : (lex : List ℕ) → literal_of lex Ending.Simple ≡ unless_empty 1 lex
unfolding message_of
simple_parts [] = refl
simple_parts (b ∷ bs) = append-nil (field_of 1 (Bytes (b ∷ bs)))

pub tagged_parts : (lex tag : List ℕ) → literal_of lex (Ending.Lang tag) ≡ unless_empty 1 lex ++ field_of 2 (Bytes tag)
unfolding message_of
tagged_parts [] tag = append-nil (field_of 2 (Bytes tag))
tagged_parts (b ∷ bs) tag = ap (λ (xs : List ℕ). field_of 1 (Bytes (b ∷ bs)) ++ xs) (append-nil (field_of 2 (Bytes tag)))

pub typed_parts : (lex : List ℕ) (id : ℕ) → literal_of lex (Ending.Typed id) ≡ unless_empty 1 lex ++ field_of 3 (Number id)
unfolding message_of
typed_parts [] id = append-nil (field_of 3 (Number id))
typed_parts (b ∷ bs) id = ap (λ (xs : List ℕ). field_of 1 (Bytes (b ∷ bs)) ++ xs) (append-nil (field_of 3 (Number id)))
