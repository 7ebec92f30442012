-- Messages of numbers and texts alone are read back: IRIs, literals, and messages without a field.
use Rattle.std.proofs.Common.{◌≡◌, ℕ, ◌^◌, ◌<◌, Bool, true, false, List, [], ◌∷◌, length, Option, Some, None, Ok, nat_eq, slice_set, refl, ap, mod-eq_of_lt, sym}
use Rattle.std.proofs.lemmas.Bool.{eqb-true}
use Rattle.jl_wire.specs.Fields.{fields_after}
use Rattle.jl_rows.specs.declared.message.Message.{Message}
use Rattle.jl_rows.specs.declared.message.Shape.{Shape}
use Rattle.jl_rows.specs.Messages.{known}
use Rattle.jl_rows.specs.Written.{Ids, Ending, Term}
use Rattle.jl_rows.specs.Reading.{Part, number_32, flag, text, ending, walk, plain, nothing_said, read_on, read, iri, literal, empty}
use Rattle.jl_spell.specs.Messages.{message_of}
use Rattle.jl_spell.specs.Rows as spelled
use Rattle.jl_spell.specs.Rows.{IsText, AreIds, IsEnding, bit}
use Rattle.jl_spell.proofs.Passing.{Passes, starts, ended, here, IsPlain, number_said, text_said, number_next, text_next, bytes_taken, number_taken}

pub plain_is : IsPlain plain
plain_is = record { number = λ v. refl; text = λ t utf8. rw utf8 refl }

-- what the readers take from it
pub number_again : (v : ℕ) → v < 2 ^ 32 → number_32 (number_said v) ≡ v
number_again v fits = by_value (nat_eq v 0) refl
  where
    by_value : (b : Bool) → nat_eq v 0 ≡ b → number_32 (number_said v) ≡ v
    by_value true zero = rw zero (sym (eqb-true v 0 zero))
    by_value false some = rw some (mod-eq_of_lt fits)

pub text_again : (t : List ℕ) → text (text_said t) ≡ t
text_again [] = refl
text_again (b ∷ bs) = refl

pub flag_again : (b : Bool) → flag (number_said (bit b)) ≡ b
flag_again true = refl
flag_again false = refl

pub iri_back : (i : Ids) → AreIds i → length (spelled.iri_of i) < 2 ^ 64 → iri (spelled.iri_of i) ≡ Ok i
unfolding iri
iri_back i is short =
    let a = starts plain Message.Iri (spelled.number i.prefix ∷ spelled.number i.name ∷ []) short in
    let b = number_next plain_is a (here Message.Iri (known 1 Shape.Number 0) refl refl refl) refl (record { none = refl; same = refl }) is.0 in
    let c = number_next plain_is b (here Message.Iri (known 2 Shape.Number 1) refl refl refl) refl (record { none = refl; same = refl }) is.1 in
    let prefix : number_32 (number_said i.prefix) ≡ i.prefix = number_again i.prefix is.0 in
    let name : number_32 (number_said i.name) ≡ i.name = number_again i.name is.1 in
    rw (ended [] c, prefix, name) refl

-- the end of a literal
abbrev pub ending_said : Ending → Option Part
ending_said Ending.Simple = None
ending_said (Ending.Lang tag) = Some (Part.Text tag)
ending_said (Ending.Typed id) = Some (Part.Number id)

ending_again : (e : Ending) → IsEnding e → ending (ending_said e) ≡ e
ending_again Ending.Simple is = refl
ending_again (Ending.Lang tag) is = refl
ending_again (Ending.Typed id) is = ap Ending.Typed (mod-eq_of_lt is)

-- the lexical form is said, and then the end
literal_front : (lex : List ℕ) (e : Ending) → IsText lex → length (spelled.literal_of lex e) < 2 ^ 64
    → Passes plain Message.Literal nothing_said (spelled.literal_of lex e) (slice_set nothing_said 0 (text_said lex)) (known 2 Shape.Text 1 ∷ known 3 Shape.Number 1 ∷ []) (spelled.ending e)
literal_front lex e utf8 short =
    let a = starts plain Message.Literal (spelled.bytes lex ∷ spelled.ending e) short in
    text_next lex plain_is a (here Message.Literal (known 1 Shape.Text 0) refl refl refl) refl (record { none = refl; same = refl }) utf8

literal_read : (lex : List ℕ) (e : Ending) → IsText lex → IsEnding e → length (spelled.literal_of lex e) < 2 ^ 64
    → read plain Message.Literal (spelled.literal_of lex e) ≡ Ok (slice_set (slice_set nothing_said 0 (text_said lex)) 1 (ending_said e))
literal_read lex Ending.Simple utf8 is short =
    let a = literal_front lex Ending.Simple utf8 short in
    ended [] (record { reads = a.reads; short = a.short })
literal_read lex (Ending.Lang tag) utf8 is short =
    let a = literal_front lex (Ending.Lang tag) utf8 short in
    ended [] (bytes_taken plain Message.Literal nothing_said (spelled.literal_of lex (Ending.Lang tag)) (slice_set nothing_said 0 (text_said lex)) (known 2 Shape.Text 1) tag (Part.Text tag) [] []
    a.reads a.short (here Message.Literal (known 2 Shape.Text 1) refl refl refl) refl refl (λ _. plain_is.text tag is))
literal_read lex (Ending.Typed id) utf8 is short =
    let a = literal_front lex (Ending.Typed id) utf8 short in
    ended [] (number_taken plain Message.Literal nothing_said (spelled.literal_of lex (Ending.Typed id)) (slice_set nothing_said 0 (text_said lex)) (known 3 Shape.Number 1) id (Part.Number id) [] []
    a.reads a.short (here Message.Literal (known 3 Shape.Number 1) refl refl refl) is refl refl (plain_is.number id))

pub literal_back : (lex : List ℕ) (e : Ending) → IsText lex → IsEnding e → length (spelled.literal_of lex e) < 2 ^ 64 → literal (spelled.literal_of lex e) ≡ Ok (Term.Literal lex e)
unfolding literal
literal_back lex e utf8 is short = rw (literal_read lex e utf8 is short, text_again lex, ending_again e is) refl

pub empty_back : empty (message_of Message.Empty []) ≡ Ok Term.Default
unfolding empty message_of read_on walk fields_after
empty_back = refl
