-- The rows of statements, position by position.
use Rattle.std.proofs.Common.{◌≡◌, ℕ, ◌+◌, List, [], ◌∷◌, ◌++◌, Option, refl, ap, sym, ◌∙◌, append_assoc, append-nil}
use Rattle.jl_rows.specs.declared.message.Message.{Message}
use Rattle.jl_rows.specs.declared.message.Shape.{Shape}
use Rattle.jl_rows.specs.declared.message.Known.{Known}
use Rattle.jl_rows.specs.Messages.{known}
use Rattle.jl_rows.specs.Messages as tables
use Rattle.jl_rows.specs.Written.{Term, Row}
use Rattle.jl_spell.specs.Fields.{Held, Bytes, field_of, fields_of}
use Rattle.jl_spell.specs.Messages.{filled_among, message_of}
use Rattle.jl_spell.specs.Rows.{position, positions, graph, row_of}
use Rattle.jl_spell.specs.Frames.{body_of}
use Rattle.jl_encode.specs.Spelling.{term_bytes, three_bytes, graph_bytes, row_bytes}

-- the four fields of a position, in front of others
abbrev pub four : ℕ → ℕ → List Known → List Known
four base g ks = known (base + 1) Shape.Iri g ∷ known (base + 2) Shape.Label g ∷ known (base + 3) Shape.Literal g ∷ known (base + 4) Shape.Nested g ∷ ks

abbrev pub Stands : Term → Type 0
Stands t = (m : Message) (base g : ℕ) (ks : List Known) (hs : List (Option Held)) → fields_of (filled_among m (four base g ks) (position t ++ hs)) ≡ term_bytes base t ++ fields_of (filled_among m ks hs)

last : (m : Message) (base g : ℕ) (t : Term) → Stands t → fields_of (filled_among m (four base g []) (position t)) ≡ term_bytes base t
last m base g t stands = ap (λ (hs : List (Option Held)). fields_of (filled_among m (four base g []) hs)) (sym (append-nil (position t))) ∙ stands m base g [] [] ∙ append-nil (term_bytes base t)

three_stand : (s p o : Term) → Stands s → Stands p → Stands o → message_of Message.Triple (positions s p o) ≡ three_bytes s p o
unfolding message_of
three_stand s p o first second third =
    first Message.Triple 0 0 (four 4 1 (four 8 2 [])) (position p ++ position o)
    ∙ ap (λ (xs : List ℕ). term_bytes 0 s ++ xs) (second Message.Triple 4 1 (four 8 2 []) (position o) ∙ ap (λ (xs : List ℕ). term_bytes 4 p ++ xs) (last Message.Triple 8 2 o third))

pub stands : (t : Term) → Stands t
stands Term.Unset m base g ks hs = refl
stands (Term.Iri i) m base g ks hs = refl
stands (Term.Bnode label) m base g ks hs = refl
stands (Term.Literal lex e) m base g ks hs = refl
stands (Term.Nested s p o) m base g ks hs = ap (λ (xs : List ℕ). field_of (base + 4) (Bytes xs) ++ fields_of (filled_among m ks hs)) (three_stand s p o (stands s) (stands p) (stands o))
stands Term.Default m base g ks hs = refl
stands (Term.Refused kind) m base g ks hs = refl

pub three_parts : (s p o : Term) → message_of Message.Triple (positions s p o) ≡ three_bytes s p o
three_parts s p o = three_stand s p o (stands s) (stands p) (stands o)

graph_parts : (g : Term) → fields_of (filled_among Message.Quad tables.graph (graph g)) ≡ graph_bytes g
unfolding message_of
graph_parts Term.Unset = refl
graph_parts (Term.Iri i) = append-nil _
graph_parts (Term.Bnode label) = append-nil _
graph_parts (Term.Literal lex e) = append-nil _
graph_parts (Term.Nested s p o) = refl
graph_parts Term.Default = append-nil _
graph_parts (Term.Refused kind) = refl

pub four_parts : (s p o g : Term) → message_of Message.Quad (position s ++ (position p ++ (position o ++ graph g))) ≡ three_bytes s p o ++ graph_bytes g
unfolding message_of
four_parts s p o g =
    stands s Message.Quad 0 0 (four 4 1 (four 8 2 tables.graph)) (position p ++ (position o ++ graph g))
    ∙ ap (λ (xs : List ℕ). term_bytes 0 s ++ xs) (stands p Message.Quad 4 1 (four 8 2 tables.graph) (position o ++ graph g)
    ∙ ap (λ (xs : List ℕ). term_bytes 4 p ++ xs) (stands o Message.Quad 8 2 tables.graph (graph g) ∙ ap (λ (xs : List ℕ). term_bytes 8 o ++ xs) (graph_parts g)))
    ∙ sym (simp append_assoc)

pub triple_row : (s p o : Term) → body_of (Row.Triple s p o ∷ []) ≡ row_bytes 2 (three_bytes s p o)
unfolding row_of
triple_row s p o = append-nil _ ∙ ap (row_bytes 2) (three_parts s p o)

pub quad_row : (s p o g : Term) → body_of (Row.Quad s p o g ∷ []) ≡ row_bytes 3 (three_bytes s p o ++ graph_bytes g)
unfolding row_of
quad_row s p o g = append-nil _ ∙ ap (row_bytes 3) (four_parts s p o g)
