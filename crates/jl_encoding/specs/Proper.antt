-- Items that can be written: texts in UTF-8, language tags of their shape, triple terms at most 32 deep, and the default
-- graph only as a graph, where no triple term stands.
use Rattle.std.specs.Prelude.{ℕ, zero, suc, IsTrue}
use Rattle.jl_base.specs.Terms.{Tail, Value, Item}
use Rattle.jl_rows.specs.Values.{is_tag}
use Rattle.jl_spell.specs.Rows.{IsText}

abbrev pub IsProperTail : Tail → Type 0
IsProperTail Tail.Simple = Unit {0}
IsProperTail (Tail.Lang tag) = IsText tag × IsTrue (is_tag tag)
IsProperTail (Tail.Typed iri) = IsText iri

abbrev pub IsProper : ℕ → Value → Type 0
IsProper depth (Value.Iri text) = IsText text
IsProper depth (Value.Bnode label) = IsText label
IsProper depth (Value.Literal lex tail) = IsText lex × IsProperTail tail
IsProper zero (Value.Nested s p o) = ⊥
IsProper (suc depth) (Value.Nested s p o) = IsProper depth s × IsProper depth p × IsProper depth o
IsProper depth Value.Default = ⊥

abbrev pub IsProperGraph : Value → Type 0
IsProperGraph (Value.Iri text) = IsText text
IsProperGraph (Value.Bnode label) = IsText label
IsProperGraph (Value.Literal lex tail) = IsText lex × IsProperTail tail
IsProperGraph (Value.Nested s p o) = ⊥
IsProperGraph Value.Default = Unit {0}

abbrev pub IsProperItem : Item → Type 0
IsProperItem (Item.Triple s p o) = IsProper 32 s × IsProper 32 p × IsProper 32 o
IsProperItem (Item.Quad s p o g) = IsProper 32 s × IsProper 32 p × IsProper 32 o × IsProperGraph g
IsProperItem (Item.Namespace name iri) = IsText name × IsText iri
