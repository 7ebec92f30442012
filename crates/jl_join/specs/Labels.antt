-- The blank labels of an item.
use Rattle.std.specs.Prelude.{ℕ, List, [], ◌∷◌, ◌++◌}
use Rattle.jl_base.specs.Terms.{Value, Iri, Bnode, Literal, Nested, Default, Item, Triple, Quad, Namespace}

-- from left to right, also those inside triple terms
unfoldable pub term_labels : Value → List (List ℕ)
term_labels (Iri iri) = []
term_labels (Bnode label) = label ∷ []
term_labels (Literal lex tail) = []
term_labels (Nested s p o) = term_labels s ++ (term_labels p ++ term_labels o)
term_labels Default = []

unfoldable pub labels_of : Item → List (List ℕ)
labels_of (Triple s p o) = term_labels s ++ (term_labels p ++ term_labels o)
labels_of (Quad s p o g) = term_labels s ++ (term_labels p ++ (term_labels o ++ term_labels g))
labels_of (Namespace name iri) = []
