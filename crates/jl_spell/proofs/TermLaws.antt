-- Terms are read back from the positions of a message.
use Rattle.std.proofs.Common.{◌≡◌, ℕ, zero, suc, ◌+◌, ◌^◌, ◌<◌, List, [], ◌∷◌, ◌++◌, length, slice_set, Option, Some, None, Ok, refl, sym, subst, append-nil}
use Rattle.jl_wire.specs.Fields.{Content}
use Rattle.jl_rows.specs.declared.message.Message.{Message}
use Rattle.jl_rows.specs.declared.message.Shape.{Shape}
use Rattle.jl_rows.specs.declared.message.Known.{Known}
use Rattle.jl_rows.specs.Messages.{known}
use Rattle.jl_rows.specs.Written.{Ids, Ending, Term}
use Rattle.jl_rows.specs.Reading.{Part, Parts, term, read, nothing_said, content_said}
use Rattle.jl_spell.specs.Fields.{Held}
use Rattle.jl_spell.specs.Messages.{message_of}
use Rattle.jl_spell.specs.Rows.{IsText, AreIds, IsEnding, IsTerm, IsGraph, iri_of, literal_of, position, positions, graph}
use Rattle.jl_spell.proofs.Passing.{Passes, starts, ended, here, IsKnown, IsFree, bytes_taken}
use Rattle.jl_spell.proofs.Scalars.{iri_back, literal_back, empty_back}

-- what a position says
abbrev pub said : Term → Option Part
said Term.Unset = None
said (Term.Iri i) = Some (Part.Said (Term.Iri i))
said (Term.Bnode label) = Some (Part.Said (Term.Bnode label))
said (Term.Literal lex e) = Some (Part.Said (Term.Literal lex e))
said (Term.Nested s p o) = Some (Part.Said (Term.Nested s p o))
said Term.Default = Some (Part.Said Term.Default)
said (Term.Refused kind) = Some (Part.Said (Term.Refused kind))

pub said_again : (t : Term) → term (said t) ≡ t
said_again Term.Unset = refl
said_again (Term.Iri i) = refl
said_again (Term.Bnode label) = refl
said_again (Term.Literal lex e) = refl
said_again (Term.Nested s p o) = refl
said_again Term.Default = refl
said_again (Term.Refused kind) = refl

pub iri_said : (depth : ℕ) (i : Ids) → AreIds i → length (iri_of i) < 2 ^ 64 → content_said depth Shape.Iri (Content.Bytes (iri_of i)) ≡ Ok (Part.Said (Term.Iri i))
unfolding content_said
iri_said zero i is short = rw (iri_back i is short) refl
iri_said (suc depth) i is short = rw (iri_back i is short) refl

label_said : (depth : ℕ) (t : List ℕ) → IsText t → content_said depth Shape.Label (Content.Bytes t) ≡ Ok (Part.Said (Term.Bnode t))
unfolding content_said
label_said zero t is = rw is refl
label_said (suc depth) t is = rw is refl

literal_said : (depth : ℕ) (lex : List ℕ) (e : Ending) → IsText lex → IsEnding e → length (literal_of lex e) < 2 ^ 64 → content_said depth Shape.Literal (Content.Bytes (literal_of lex e)) ≡ Ok (Part.Said (Term.Literal lex e))
unfolding content_said
literal_said zero lex e utf8 is short = rw (literal_back lex e utf8 is short) refl
literal_said (suc depth) lex e utf8 is short = rw (literal_back lex e utf8 is short) refl

default_said : (depth : ℕ) → content_said depth Shape.Default (Content.Bytes (message_of Message.Empty [])) ≡ Ok (Part.Said Term.Default)
unfolding content_said
default_said zero = rw empty_back refl
default_said (suc depth) = rw empty_back refl

-- the fields of a position
abbrev pub four : ℕ → ℕ → List Known → List Known
four n g ks = known n Shape.Iri g ∷ known (n + 1) Shape.Label g ∷ known (n + 2) Shape.Literal g ∷ known (n + 3) Shape.Nested g ∷ ks

pub record IsPosition (m : Message) (n g : ℕ) : Type 0 where
  pub iri : IsKnown m (known n Shape.Iri g)
  pub label : IsKnown m (known (n + 1) Shape.Label g)
  pub literal : IsKnown m (known (n + 2) Shape.Literal g)
  pub nested : IsKnown m (known (n + 3) Shape.Nested g)

-- a term in front is read back, in any message that has its position
abbrev pub Front : ℕ → Term → Type 0
Front depth t = (m : Message) (n g : ℕ) (ps : Parts) (whole : List ℕ) (qs : Parts) (ks : List Known) (hs : List (Option Held)) → IsPosition m n g
    → Passes (content_said depth) m ps whole qs (four n g ks) (position t ++ hs) → IsFree qs g → Passes (content_said depth) m ps whole (slice_set qs g (said t)) ks hs

subject_of_triple : IsPosition Message.Triple 1 0
subject_of_triple = record {
  iri = here Message.Triple (known 1 Shape.Iri 0) refl refl refl;
  label = here Message.Triple (known 2 Shape.Label 0) refl refl refl;
  literal = here Message.Triple (known 3 Shape.Literal 0) refl refl refl;
  nested = here Message.Triple (known 4 Shape.Nested 0) refl refl refl;
}

predicate_of_triple : IsPosition Message.Triple 5 1
predicate_of_triple = record {
  iri = here Message.Triple (known 5 Shape.Iri 1) refl refl refl;
  label = here Message.Triple (known 6 Shape.Label 1) refl refl refl;
  literal = here Message.Triple (known 7 Shape.Literal 1) refl refl refl;
  nested = here Message.Triple (known 8 Shape.Nested 1) refl refl refl;
}

object_of_triple : IsPosition Message.Triple 9 2
object_of_triple = record {
  iri = here Message.Triple (known 9 Shape.Iri 2) refl refl refl;
  label = here Message.Triple (known 10 Shape.Label 2) refl refl refl;
  literal = here Message.Triple (known 11 Shape.Literal 2) refl refl refl;
  nested = here Message.Triple (known 12 Shape.Nested 2) refl refl refl;
}

subject_of_quad : IsPosition Message.Quad 1 0
subject_of_quad = record {
  iri = here Message.Quad (known 1 Shape.Iri 0) refl refl refl;
  label = here Message.Quad (known 2 Shape.Label 0) refl refl refl;
  literal = here Message.Quad (known 3 Shape.Literal 0) refl refl refl;
  nested = here Message.Quad (known 4 Shape.Nested 0) refl refl refl;
}

predicate_of_quad : IsPosition Message.Quad 5 1
predicate_of_quad = record {
  iri = here Message.Quad (known 5 Shape.Iri 1) refl refl refl;
  label = here Message.Quad (known 6 Shape.Label 1) refl refl refl;
  literal = here Message.Quad (known 7 Shape.Literal 1) refl refl refl;
  nested = here Message.Quad (known 8 Shape.Nested 1) refl refl refl;
}

object_of_quad : IsPosition Message.Quad 9 2
object_of_quad = record {
  iri = here Message.Quad (known 9 Shape.Iri 2) refl refl refl;
  label = here Message.Quad (known 10 Shape.Label 2) refl refl refl;
  literal = here Message.Quad (known 11 Shape.Literal 2) refl refl refl;
  nested = here Message.Quad (known 12 Shape.Nested 2) refl refl refl;
}

-- three terms are read back
pub triple_read : (depth : ℕ) (s p o : Term) → Front depth s → Front depth p → Front depth o → length (message_of Message.Triple (positions s p o)) < 2 ^ 64
    → read (content_said depth) Message.Triple (message_of Message.Triple (positions s p o)) ≡ Ok (slice_set (slice_set (slice_set nothing_said 0 (said s)) 1 (said p)) 2 (said o))
triple_read depth s p o as_s as_p as_o short =
    let whole = message_of Message.Triple (positions s p o) in
    let after_s = slice_set nothing_said 0 (said s) in
    let after_p = slice_set after_s 1 (said p) in
    let a = starts (content_said depth) Message.Triple (positions s p o) short in
    let b = as_s Message.Triple 1 0 nothing_said whole nothing_said (four 5 1 (four 9 2 [])) (position p ++ position o) subject_of_triple a (record { none = refl; same = refl }) in
    let c = as_p Message.Triple 5 1 nothing_said whole after_s (four 9 2 []) (position o) predicate_of_triple b (record { none = refl; same = refl }) in
    let last = subst (λ (hs : List (Option Held)). Passes (content_said depth) Message.Triple nothing_said whole after_p (four 9 2 []) hs) (sym (append-nil (position o))) c in
    ended [] (as_o Message.Triple 9 2 nothing_said whole after_p [] [] object_of_triple last (record { none = refl; same = refl }))

nested_said : (depth : ℕ) (s p o : Term) → Front depth s → Front depth p → Front depth o → length (message_of Message.Triple (positions s p o)) < 2 ^ 64
    → content_said (suc depth) Shape.Nested (Content.Bytes (message_of Message.Triple (positions s p o))) ≡ Ok (Part.Said (Term.Nested s p o))
unfolding content_said
nested_said depth s p o as_s as_p as_o short = rw (triple_read depth s p o as_s as_p as_o short, said_again s, said_again p, said_again o) refl

pub term_next : (t : Term) (depth : ℕ) → IsTerm depth t → Front depth t
term_next Term.Unset depth is m n g ps whole qs ks hs at passes free = rw free.same (record { reads = passes.reads; short = passes.short })
term_next (Term.Iri i) depth is m n g ps whole qs ks hs at passes free =
    bytes_taken (content_said depth) m ps whole qs (known n Shape.Iri g) (iri_of i) (Part.Said (Term.Iri i)) ks hs passes.reads passes.short at.iri refl free.none (iri_said depth i is)
term_next (Term.Bnode label) depth is m n g ps whole qs ks hs at passes free =
    bytes_taken (content_said depth) m ps whole qs (known (n + 1) Shape.Label g) label (Part.Said (Term.Bnode label)) ks hs passes.reads passes.short at.label refl free.none (λ _. label_said depth label is)
term_next (Term.Literal lex e) depth is m n g ps whole qs ks hs at passes free =
    bytes_taken (content_said depth) m ps whole qs (known (n + 2) Shape.Literal g) (literal_of lex e) (Part.Said (Term.Literal lex e)) ks hs passes.reads passes.short at.literal refl free.none (literal_said depth lex e is.0 is.1)
term_next (Term.Nested s p o) zero is m n g ps whole qs ks hs at passes free = absurd is
term_next (Term.Nested s p o) (suc depth) is m n g ps whole qs ks hs at passes free =
    bytes_taken (content_said (suc depth)) m ps whole qs (known (n + 3) Shape.Nested g) (message_of Message.Triple (positions s p o)) (Part.Said (Term.Nested s p o)) ks hs passes.reads passes.short at.nested refl free.none
    (nested_said depth s p o (term_next s depth is.0) (term_next p depth is.1) (term_next o depth is.2))
term_next Term.Default depth is m n g ps whole qs ks hs at passes free = absurd is
term_next (Term.Refused kind) depth is m n g ps whole qs ks hs at passes free = absurd is

-- the same for a graph, which is the last
abbrev pub graph_four : ℕ → ℕ → List Known
graph_four n g = known n Shape.Iri g ∷ known (n + 1) Shape.Label g ∷ known (n + 2) Shape.Default g ∷ known (n + 3) Shape.Literal g ∷ []

pub record IsGraphPosition (m : Message) (n g : ℕ) : Type 0 where
  pub iri : IsKnown m (known n Shape.Iri g)
  pub label : IsKnown m (known (n + 1) Shape.Label g)
  pub default : IsKnown m (known (n + 2) Shape.Default g)
  pub literal : IsKnown m (known (n + 3) Shape.Literal g)

pub graph_next : (t : Term) (depth : ℕ) → IsGraph t → (m : Message) (n g : ℕ) (ps : Parts) (whole : List ℕ) (qs : Parts) → IsGraphPosition m n g
    → Passes (content_said depth) m ps whole qs (graph_four n g) (graph t) → IsFree qs g → Passes (content_said depth) m ps whole (slice_set qs g (said t)) [] []
graph_next Term.Unset depth is m n g ps whole qs at passes free = rw free.same (record { reads = passes.reads; short = passes.short })
graph_next (Term.Iri i) depth is m n g ps whole qs at passes free =
    bytes_taken (content_said depth) m ps whole qs (known n Shape.Iri g) (iri_of i) (Part.Said (Term.Iri i)) [] [] passes.reads passes.short at.iri refl free.none (iri_said depth i is)
graph_next (Term.Bnode label) depth is m n g ps whole qs at passes free =
    bytes_taken (content_said depth) m ps whole qs (known (n + 1) Shape.Label g) label (Part.Said (Term.Bnode label)) [] [] passes.reads passes.short at.label refl free.none (λ _. label_said depth label is)
graph_next (Term.Literal lex e) depth is m n g ps whole qs at passes free =
    bytes_taken (content_said depth) m ps whole qs (known (n + 3) Shape.Literal g) (literal_of lex e) (Part.Said (Term.Literal lex e)) [] [] passes.reads passes.short at.literal refl free.none (literal_said depth lex e is.0 is.1)
graph_next (Term.Nested s p o) depth is m n g ps whole qs at passes free = absurd is
graph_next (Term.Refused kind) depth is m n g ps whole qs at passes free = absurd is
graph_next Term.Default depth is m n g ps whole qs at passes free =
    bytes_taken (content_said depth) m ps whole qs (known (n + 2) Shape.Default g) (message_of Message.Empty []) (Part.Said Term.Default) [] [] passes.reads passes.short at.default refl free.none (λ _. default_said depth)

graph_of_quad : IsGraphPosition Message.Quad 13 3
graph_of_quad = record {
  iri = here Message.Quad (known 13 Shape.Iri 3) refl refl refl;
  label = here Message.Quad (known 14 Shape.Label 3) refl refl refl;
  default = here Message.Quad (known 15 Shape.Default 3) refl refl refl;
  literal = here Message.Quad (known 16 Shape.Literal 3) refl refl refl;
}

graph_of_start : IsGraphPosition Message.GraphStart 1 0
graph_of_start = record {
  iri = here Message.GraphStart (known 1 Shape.Iri 0) refl refl refl;
  label = here Message.GraphStart (known 2 Shape.Label 0) refl refl refl;
  default = here Message.GraphStart (known 3 Shape.Default 0) refl refl refl;
  literal = here Message.GraphStart (known 4 Shape.Literal 0) refl refl refl;
}

-- four terms are read back
pub quad_read : (depth : ℕ) (s p o g : Term) → IsTerm depth s → IsTerm depth p → IsTerm depth o → IsGraph g → length (message_of Message.Quad (position s ++ (position p ++ (position o ++ graph g)))) < 2 ^ 64
    → read (content_said depth) Message.Quad (message_of Message.Quad (position s ++ (position p ++ (position o ++ graph g)))) ≡ Ok (slice_set (slice_set (slice_set (slice_set nothing_said 0 (said s)) 1 (said p)) 2 (said o)) 3 (said g))
quad_read depth s p o g is_s is_p is_o is_g short =
    let whole = message_of Message.Quad (position s ++ (position p ++ (position o ++ graph g))) in
    let after_s = slice_set nothing_said 0 (said s) in
    let after_p = slice_set after_s 1 (said p) in
    let after_o = slice_set after_p 2 (said o) in
    let a = starts (content_said depth) Message.Quad (position s ++ (position p ++ (position o ++ graph g))) short in
    let b = term_next s depth is_s Message.Quad 1 0 nothing_said whole nothing_said (four 5 1 (four 9 2 (graph_four 13 3))) (position p ++ (position o ++ graph g)) subject_of_quad a (record { none = refl; same = refl }) in
    let c = term_next p depth is_p Message.Quad 5 1 nothing_said whole after_s (four 9 2 (graph_four 13 3)) (position o ++ graph g) predicate_of_quad b (record { none = refl; same = refl }) in
    let d = term_next o depth is_o Message.Quad 9 2 nothing_said whole after_p (graph_four 13 3) (graph g) object_of_quad c (record { none = refl; same = refl }) in
    ended [] (graph_next g depth is_g Message.Quad 13 3 nothing_said whole after_o graph_of_quad d (record { none = refl; same = refl }))

pub graph_read : (depth : ℕ) (g : Term) → IsGraph g → length (message_of Message.GraphStart (graph g)) < 2 ^ 64
    → read (content_said depth) Message.GraphStart (message_of Message.GraphStart (graph g)) ≡ Ok (slice_set nothing_said 0 (said g))
graph_read depth g is short =
    let whole = message_of Message.GraphStart (graph g) in
    let a = starts (content_said depth) Message.GraphStart (graph g) short in
    ended [] (graph_next g depth is Message.GraphStart 1 0 nothing_said whole nothing_said graph_of_start a (record { none = refl; same = refl }))
