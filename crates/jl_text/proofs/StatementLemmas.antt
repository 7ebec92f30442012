-- A statement's line: its three terms, its graph and its end.
use Rattle.std.proofs.Common.{◌≡◌, ℕ, List, [], ◌∷◌, ◌++◌, codes, refl, ap, sym, ◌∙◌, append_assoc}
use Rattle.std.proofs.lemmas.List.{append-nil}
use Rattle.std.specs.List.{flat_map, join_with_byte}
use Rattle.jl_base.specs.Terms.{Value, Item}
use Rattle.jl_base.specs.Items.{value_of}
use Rattle.jl_base.specs.declared.term.Three.{Three}
use Rattle.jl_base.specs.declared.term.Term.TheVariants.{Triple}
use Rattle.jl_base.proofs.ItemLemmas.{value_of-triple}
use Rattle.jl_text.specs.Line.{line, statement, spaced, term_text, graph_texts}
use Rattle.jl_text.specs.Graphs.{graph_part}

pub nested_value : (three : Three) → value_of (Triple three) ≡ Value.Nested (value_of three.s) (value_of three.p) (value_of three.o)
nested_value three = value_of-triple three

-- the default graph is left out
pub graph_left_out : (g : Value) (out : List ℕ) → g ≡ Value.Default → out ≡ out ++ graph_part g
unfolding graph_texts
graph_left_out g out e = rw e (sym (append-nil out))

graph_said : (g : Value) → (g ≡ Value.Default → ⊥) → graph_part g ≡ 32 ∷ term_text g
unfolding graph_texts
graph_said (Value.Iri t) e = append-nil _
graph_said (Value.Bnode t) e = append-nil _
graph_said (Value.Literal t tail) e = append-nil _
graph_said (Value.Nested s p o) e = append-nil _
graph_said Value.Default e = absurd (e refl)

pub graph_appended : (g : Value) (a b c : List ℕ) → (g ≡ Value.Default → ⊥) → b ≡ a ++ 32 ∷ [] → c ≡ b ++ term_text g → c ≡ a ++ graph_part g
graph_appended g a b c some p q =
    q ∙ ap (λ (xs : List ℕ). xs ++ term_text g) p ∙ append_assoc a (32 ∷ []) (term_text g) ∙ sym (ap (λ (xs : List ℕ). a ++ xs) (graph_said g some))

joined_after : (text : List ℕ) (texts : List (List ℕ)) → join_with_byte 32 (text ∷ texts) ≡ text ++ flat_map (λ t. 32 ∷ t) texts
joined_after text [] = sym (append-nil text)
joined_after text (next ∷ texts) = ap (λ (xs : List ℕ). text ++ 32 ∷ xs) (joined_after next texts)

spaced_parts : (s p o : List ℕ) (gs : List (List ℕ)) → statement (s ∷ p ∷ o ∷ gs) ≡ spaced (s ∷ p ∷ o ∷ []) ++ (flat_map (λ t. 32 ∷ t) gs ++ codes " .\n")
spaced_parts s p o gs = ap (λ (xs : List ℕ). (s ++ 32 ∷ (p ++ 32 ∷ xs)) ++ codes " .\n") (joined_after o gs) ∙ simp append_assoc

quad_line : (s p o g : Value) → line (Item.Quad s p o g) ≡ spaced (term_text s ∷ term_text p ∷ term_text o ∷ []) ++ (graph_part g ++ codes " .\n")
unfolding line
quad_line s p o g = spaced_parts (term_text s) (term_text p) (term_text o) (graph_texts g)

pub quad_appended : (s p o g : Value) (a b c d : List ℕ) → b ≡ a ++ spaced (term_text s ∷ term_text p ∷ term_text o ∷ []) → c ≡ b ++ graph_part g → d ≡ c ++ codes " .\n" → d ≡ a ++ line (Item.Quad s p o g)
quad_appended s p o g a b c d x y z = rw (z, y, x, quad_line s p o g) (simp append_assoc)
