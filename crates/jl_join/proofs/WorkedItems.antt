-- Items that were joined and cut by hand, held against the definitions by computing.
use Rattle.std.proofs.Common.{◌≡◌, true, false, [], ◌∷◌, codes, refl}
use Rattle.std.specs.Fmt.{digits}
use Rattle.jl_base.specs.Terms.{Value, Iri, Bnode, Literal, Nested, Default, Item, Triple, Quad, Namespace, Lang}
use Rattle.jl_join.specs.Relabelling.{relabelled_label, relabelled_term, relabelled, widened}
use Rattle.jl_join.specs.Merging.{merged_from, merged, parts_after, parts}

abbrev p : Value
p = Iri (codes "p")

abbrev plain : Item
plain = Triple (Bnode (codes "b")) p (Iri (codes "o"))

abbrev deep : Item
deep = Quad (Nested (Bnode (codes "a")) p (Nested (Iri (codes "s")) p (Bnode []))) p (Literal (codes "b") (Lang (codes "en"))) (Bnode (codes "g_1"))

abbrev name : Item
name = Namespace (codes "n") (codes "i")

relabelled_plain : relabelled 1 plain ≡ Triple (Bnode (codes "m1_b")) p (Iri (codes "o"))
unfolding digits relabelled relabelled_term relabelled_label
relabelled_plain = refl

relabelled_deep : relabelled 4294967295 deep ≡ Quad (Nested (Bnode (codes "m4294967295_a")) p (Nested (Iri (codes "s")) p (Bnode (codes "m4294967295_")))) p (Literal (codes "b") (Lang (codes "en"))) (Bnode (codes "m4294967295_g_1"))
unfolding digits relabelled relabelled_term relabelled_label
relabelled_deep = refl

relabelled_name : relabelled 7 name ≡ name
unfolding relabelled
relabelled_name = refl

-- the labels of two files that are alike stay apart
merged_plain : merged false ((plain ∷ []) ∷ [] ∷ (name ∷ plain ∷ []) ∷ []) ≡ Triple (Bnode (codes "m1_b")) p (Iri (codes "o")) ∷ name ∷ Triple (Bnode (codes "m3_b")) p (Iri (codes "o")) ∷ []
unfolding digits relabelled relabelled_term relabelled_label merged_from
merged_plain = refl

-- a file of triples beside one with a graph
merged_with_graph : merged true ((plain ∷ []) ∷ (Quad (Bnode (codes "b")) p p (Iri (codes "g")) ∷ []) ∷ []) ≡ Quad (Bnode (codes "m1_b")) p (Iri (codes "o")) Default ∷ Quad (Bnode (codes "m2_b")) p p (Iri (codes "g")) ∷ []
unfolding digits relabelled relabelled_term relabelled_label widened merged_from
merged_with_graph = refl

no_parts : parts [] 2 ≡ []
unfolding parts_after
no_parts = refl

in_twos : parts (plain ∷ name ∷ deep ∷ []) 2 ≡ (plain ∷ name ∷ []) ∷ (deep ∷ []) ∷ []
unfolding parts_after
in_twos = refl

full_parts : parts (plain ∷ name ∷ []) 1 ≡ (plain ∷ []) ∷ (name ∷ []) ∷ []
unfolding parts_after
full_parts = refl

one_large_part : parts (plain ∷ name ∷ []) 1000 ≡ (plain ∷ name ∷ []) ∷ []
unfolding parts_after
one_large_part = refl
