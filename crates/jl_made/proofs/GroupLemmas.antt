-- The group of a made item's subject.
use Rattle.std.proofs.Common.{◌≡◌, ℕ, List, Option, Some, None, refl, ap}
use Rattle.jl_base.specs.Terms.{Value, Item}
use Rattle.jl_made.specs.Items.{IsOfGroup, HasGroup, group_text}

pub of_group : (number group : ℕ) (item : Item) → HasGroup number group item → IsOfGroup number group item
of_group number group (Item.Triple (Value.Iri text) p o) has = let same : text ≡ group_text number group = cc in ap Value.Iri same
of_group number group (Item.Triple (Value.Bnode label) p o) has = absurd (cc)
of_group number group (Item.Triple (Value.Literal lex tail) p o) has = absurd (cc)
of_group number group (Item.Triple (Value.Nested a b c) p o) has = absurd (cc)
of_group number group (Item.Triple Value.Default p o) has = absurd (cc)
of_group number group (Item.Quad s p o g) has = tt
of_group number group (Item.Namespace name iri) has = tt

pub has_group : (number group : ℕ) (item : Item) → IsOfGroup number group item → HasGroup number group item
has_group number group (Item.Triple (Value.Iri text) p o) is = let same : text ≡ group_text number group = cc in ap Some same
has_group number group (Item.Triple (Value.Bnode label) p o) is = absurd (cc)
has_group number group (Item.Triple (Value.Literal lex tail) p o) is = absurd (cc)
has_group number group (Item.Triple (Value.Nested a b c) p o) is = absurd (cc)
has_group number group (Item.Triple Value.Default p o) is = absurd (cc)
has_group number group (Item.Quad s p o g) is = refl
has_group number group (Item.Namespace name iri) is = refl
