-- Parts of a line that are appended one after another.
use Rattle.std.proofs.Common.{◌≡◌, ℕ, ◌+◌, Bool, true, false, cond, List, [], ◌∷◌, ◌++◌, codes, ap, sym, ◌∙◌, append_assoc, append-nil, arith, refl}
use Rattle.std.specs.List.{flat_map}
use Rattle.jl_base.specs.Terms.{Item, Value}
use Rattle.jl_rows.specs.Written.{StreamOptions}
use Rattle.jl_rows.specs.Decoder.{is_quads, is_graphs}
use Rattle.jl_state.specs.States.{State}
use Rattle.jl_state.specs.Lawful.{statement_of, value_or_default}
use Rattle.jl_text.specs.Line.{spaced}
use Rattle.jl_lines.specs.declared.decoding.Counts.{Counts}
use Rattle.jl_lines.specs.Counts.{with_counted}

-- the parts of a triple term
pub nested_appended : (a b c d e f g h S P O : List ℕ) → b ≡ a ++ codes "<< " → c ≡ b ++ S → d ≡ c ++ 32 ∷ [] → e ≡ d ++ P → f ≡ e ++ 32 ∷ [] → g ≡ f ++ O → h ≡ g ++ codes " >>"
    → h ≡ a ++ (codes "<< " ++ spaced (S ∷ P ∷ O ∷ []) ++ codes " >>")
nested_appended a b c d e f g h S P O p1 p2 p3 p4 p5 p6 p7 = rw (p7, p6, p5, p4, p3, p2, p1) (simp append_assoc)

-- what is written of one item
pub one_item : (writes : Item → List ℕ) (item : Item) (old new : List ℕ) → new ≡ old ++ writes item → new ≡ old ++ flat_map writes (item ∷ [])
one_item writes item old new e = e ∙ ap (λ (xs : List ℕ). old ++ xs) (sym (append-nil (writes item)))

-- one statement more
counted_by_form : (counts : Counts) (q g : Bool) (a b c d e : Value)
    → with_counted counts (cond q (Item.Quad a b c d) (cond g (Item.Quad a b c e) (Item.Triple a b c)) ∷ []) ≡ record { statements = counts.statements + 1; namespaces = counts.namespaces }
counted_by_form counts true g a b c d e = let same : counts.namespaces + 0 ≡ counts.namespaces = omega arith in rw same refl
counted_by_form counts false true a b c d e = let same : counts.namespaces + 0 ≡ counts.namespaces = omega arith in rw same refl
counted_by_form counts false false a b c d e = let same : counts.namespaces + 0 ≡ counts.namespaces = omega arith in rw same refl

pub statement_counted : (counts : Counts) (o : StreamOptions) (t : State) → with_counted counts (statement_of o t ∷ []) ≡ record { statements = counts.statements + 1; namespaces = counts.namespaces }
statement_counted counts o t = counted_by_form counts (is_quads o) (is_graphs o) (value_or_default t.subject) (value_or_default t.predicate) (value_or_default t.object) (value_or_default t.graph) (value_or_default t.open_graph)

-- one declaration more
pub namespace_counted : (counts : Counts) (name iri : List ℕ) → with_counted counts (Item.Namespace name iri ∷ []) ≡ record { statements = counts.statements; namespaces = counts.namespaces + 1 }
namespace_counted counts name iri = let same : counts.statements + 0 ≡ counts.statements = omega arith in rw same refl
