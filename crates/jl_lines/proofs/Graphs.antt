-- The graph in a line.
use Rattle.std.proofs.Common.{◌≡◌, ℕ, Bool, true, false, List, [], ◌∷◌, ◌++◌, Option, Some, None, codes, refl, ap, sym, ◌∙◌, append_assoc, cond}
use Rattle.std.proofs.lemmas.List.{append-nil}
use Rattle.std.specs.List.{join_with_byte}
use Rattle.jl_base.specs.Terms.{Value, Item}
use Rattle.jl_text.specs.Line.{line, statement, term_text, graph_texts}
use Rattle.jl_rows.specs.Written.{StreamOptions}
use Rattle.jl_rows.specs.Decoder.{is_quads, is_graphs}
use Rattle.jl_state.specs.States.{State}
use Rattle.jl_state.specs.declared.known.Known.{Known}
use Rattle.jl_state.specs.KnownTerms.{known_value}
use Rattle.jl_state.specs.Lawful.{maybe_value, value_or_default, statement_of}
use Rattle.jl_lines.specs.Spaces.{with_spaces, is_default, graph_around}

-- a graph that is told has its text
graph_said : (g : Value) → is_default g ≡ false → with_spaces (graph_texts g) ≡ term_text g ++ codes " "
unfolding graph_texts
graph_said (Value.Iri t) e = append-nil _
graph_said (Value.Bnode t) e = append-nil _
graph_said (Value.Literal t tail) e = append-nil _
graph_said (Value.Nested s p o) e = append-nil _
graph_said Value.Default e = cc

graph_unsaid : (g : Value) → is_default g ≡ true → with_spaces (graph_texts g) ≡ []
unfolding graph_texts
graph_unsaid (Value.Iri t) e = cc
graph_unsaid (Value.Bnode t) e = cc
graph_unsaid (Value.Literal t tail) e = cc
graph_unsaid (Value.Nested s p o) e = cc
graph_unsaid Value.Default e = refl

-- texts with a space between, by the spaces behind each
joined_with : (text : List ℕ) (texts : List (List ℕ)) → join_with_byte 32 (text ∷ texts) ++ codes " " ≡ (text ++ codes " ") ++ with_spaces texts
joined_with text [] = sym (append-nil (text ++ codes " "))
joined_with text (next ∷ texts) =
    append_assoc text (32 ∷ join_with_byte 32 (next ∷ texts)) (codes " ") ∙ ap (λ (xs : List ℕ). text ++ (32 ∷ xs)) (joined_with next texts) ∙ sym (append_assoc text (codes " ") (with_spaces (next ∷ texts)))

-- a statement's line, part by part
line_parts : (s p o : List ℕ) (gs : List (List ℕ)) → statement (s ∷ p ∷ o ∷ gs) ≡ (s ++ codes " ") ++ ((p ++ codes " ") ++ ((o ++ codes " ") ++ (with_spaces gs ++ codes ".\n")))
line_parts s p o gs =
    sym (append_assoc (join_with_byte 32 (s ∷ p ∷ o ∷ gs)) (codes " ") (codes ".\n")) ∙ ap (λ (xs : List ℕ). xs ++ codes ".\n") (joined_with s (p ∷ o ∷ gs)) ∙ simp append_assoc

line_by_form : (q g : Bool) (a b c d e : Value) → line (cond q (Item.Quad a b c d) (cond g (Item.Quad a b c e) (Item.Triple a b c)))
    ≡ (term_text a ++ codes " ") ++ ((term_text b ++ codes " ") ++ ((term_text c ++ codes " ") ++ (with_spaces (cond q (graph_texts d) (cond g (graph_texts e) [])) ++ codes ".\n")))
unfolding line
line_by_form true g a b c d e = line_parts (term_text a) (term_text b) (term_text c) (graph_texts d)
line_by_form false true a b c d e = line_parts (term_text a) (term_text b) (term_text c) (graph_texts e)
line_by_form false false a b c d e = line_parts (term_text a) (term_text b) (term_text c) []

statement_line : (o : StreamOptions) (t : State) → line (statement_of o t)
    ≡ (term_text (value_or_default t.subject) ++ codes " ") ++ ((term_text (value_or_default t.predicate) ++ codes " ") ++ ((term_text (value_or_default t.object) ++ codes " ") ++ (with_spaces (graph_around o t) ++ codes ".\n")))
statement_line o t = line_by_form (is_quads o) (is_graphs o) (value_or_default t.subject) (value_or_default t.predicate) (value_or_default t.object) (value_or_default t.graph) (value_or_default t.open_graph)

-- the parts of a line, written one behind another
pub line_written : (o : StreamOptions) (t : State) (a b c d e f : List ℕ) → b ≡ a ++ (term_text (value_or_default t.subject) ++ codes " ") → c ≡ b ++ (term_text (value_or_default t.predicate) ++ codes " ")
    → d ≡ c ++ (term_text (value_or_default t.object) ++ codes " ") → e ≡ d ++ with_spaces (graph_around o t) → f ≡ e ++ codes ".\n" → f ≡ a ++ line (statement_of o t)
line_written o t a b c d e f p1 p2 p3 p4 p5 = rw (p5, p4, p3, p2, p1, statement_line o t) (simp append_assoc)

-- the graph of a position
module _ (bytes : List ℕ) (graph : Option Known) where
  pub no_graph : (out : List ℕ) → graph ≡ None → out ≡ out ++ with_spaces (graph_texts (value_or_default (maybe_value bytes graph)))
  unfolding graph_texts
  no_graph out e = rw e (sym (append-nil out))

  pub untold : (k : Known) (out : List ℕ) → graph ≡ Some k → is_default (known_value bytes k) ≡ true → out ≡ out ++ with_spaces (graph_texts (value_or_default (maybe_value bytes graph)))
  untold k out e d = sym (ap (λ (g : Option Known). out ++ with_spaces (graph_texts (value_or_default (maybe_value bytes g)))) e ∙ ap (λ (xs : List ℕ). out ++ xs) (graph_unsaid (known_value bytes k) d) ∙ append-nil out)

  pub told : (k : Known) → graph ≡ Some k → is_default (known_value bytes k) ≡ false → with_spaces (graph_texts (value_or_default (maybe_value bytes graph))) ≡ term_text (known_value bytes k) ++ codes " "
  told k e d = ap (λ (g : Option Known). with_spaces (graph_texts (value_or_default (maybe_value bytes g)))) e ∙ graph_said (known_value bytes k) d
