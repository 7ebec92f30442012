-- What the code's terms and items stand for.
use Rattle.std.specs.Prelude.{List, map}
use Rattle.jl_base.specs.Terms.{Value, Tail, Item}
use Rattle.jl_base.specs.Terms as said
use Rattle.jl_base.specs.declared.term.Term.{Term, Iri, Bnode, Literal, Default, Triple', Row_of-Three, end_of-Three, more_of-Three}
use Rattle.jl_base.specs.declared.term.Tail as tail
use Rattle.jl_base.specs.declared.term.Tail.TheVariants as tails
use Rattle.jl_base.specs.declared.term.Item as item
use Rattle.jl_base.specs.declared.term.Item.TheVariants as items

abbrev pub tail_of : tail.Tail → Tail
tail_of tails.Simple = said.Simple
tail_of (tails.Lang tag) = said.Lang tag
tail_of (tails.Typed iri) = said.Typed iri

abbrev mutual
  pub value_of : Term → Value
  value_of (Iri iri) = said.Iri iri
  value_of (Bnode label) = said.Bnode label
  value_of (Literal lex tail) = said.Literal lex (tail_of tail)
  value_of (Triple' shape held) = nested_of held
  value_of Default = said.Default

  -- what a box of three terms holds
  pub nested_of : {m : _} → Row_of-Three m → Value
  nested_of end_of-Three = said.Default
  nested_of (more_of-Three s p o rest) = said.Nested (value_of s) (value_of p) (value_of o)

abbrev pub item_of : item.Item → Item
item_of (items.Triple s p o) = said.Triple (value_of s) (value_of p) (value_of o)
item_of (items.Quad s p o g) = said.Quad (value_of s) (value_of p) (value_of o) (value_of g)
item_of (items.Namespace name iri) = said.Namespace name iri

abbrev pub items_of : List item.Item → List Item
items_of all = map item_of all
