-- RDF terms and what a file states with them (RDF 1.1 Concepts, section 3; RDF-star triple terms). A text is its bytes.
use Rattle.std.specs.Prelude.{ℕ, List}

-- the end of a literal: nothing, a language tag, or a datatype's IRI
pub data Tail : Type 0 where
  Simple : Tail
  Lang : List ℕ → Tail
  Typed : List ℕ → Tail

-- Default is the default graph; it stands only as a graph.
pub data Value : Type 0 where
  Iri : List ℕ → Value
  Bnode : List ℕ → Value
  Literal : List ℕ → Tail → Value
  Nested : Value → Value → Value → Value
  Default : Value

-- a statement, or the declaration of a namespace's name
pub data Item : Type 0 where
  Triple : Value → Value → Value → Item
  Quad : Value → Value → Value → Value → Item
  Namespace : List ℕ → List ℕ → Item
