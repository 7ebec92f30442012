-- Items of one of several files, as items of one file of them all.
use Rattle.std.specs.Prelude.{ℕ, List, ◌++◌, codes}
use Rattle.std.specs.Fmt.{decimal}
use Rattle.jl_base.specs.Terms.{Value, Iri, Bnode, Literal, Nested, Default, Item, Triple, Quad, Namespace}

-- What a blank label of file k becomes: `m`, the file's number in decimal, `_`, and the label.
unfoldable pub relabelled_label : ℕ → List ℕ → List ℕ
relabelled_label k label = codes "m" ++ (decimal k ++ (codes "_" ++ label))

-- with each blank label renamed, also inside triple terms
unfoldable pub relabelled_term : ℕ → Value → Value
relabelled_term k (Iri iri) = Iri iri
relabelled_term k (Bnode label) = Bnode (relabelled_label k label)
relabelled_term k (Literal lex tail) = Literal lex tail
relabelled_term k (Nested s p o) = Nested (relabelled_term k s) (relabelled_term k p) (relabelled_term k o)
relabelled_term k Default = Default

unfoldable pub relabelled : ℕ → Item → Item
relabelled k (Triple s p o) = Triple (relabelled_term k s) (relabelled_term k p) (relabelled_term k o)
relabelled k (Quad s p o g) = Quad (relabelled_term k s) (relabelled_term k p) (relabelled_term k o) (relabelled_term k g)
relabelled k (Namespace name iri) = Namespace name iri

-- A triple states the same as a quad of the default graph.
unfoldable pub widened : Item → Item
widened (Triple s p o) = Quad s p o Default
widened (Quad s p o g) = Quad s p o g
widened (Namespace name iri) = Namespace name iri
