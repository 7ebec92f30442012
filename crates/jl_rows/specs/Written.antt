-- Terms, options and rows as a file writes them (Jelly RDF serialization, "RdfStreamRow" and the messages in it): ids in
-- place of texts that lookup tables hold. A text is its bytes.
use Rattle.jl_base.specs.declared.kind.Kind.{Kind}
use Rattle.jl_rows.specs.declared.row.Table.{Table}
use Rattle.std.specs.Prelude.{ℕ, Bool, List, Option}

-- an IRI by the ids of its prefix and its name, 0 where they are left to the rule for 0
pub record Ids : Type 0 where
  pub prefix : ℕ
  pub name : ℕ

-- the end of a literal: nothing, a language tag, or the id of a datatype
pub data Ending : Type 0 where
  Simple : Ending
  Lang : List ℕ → Ending
  Typed : ℕ → Ending

-- Unset repeats the term of an earlier statement.
pub data Term : Type 0 where
  Unset : Term
  Iri : Ids → Term
  Bnode : List ℕ → Term
  Literal : List ℕ → Ending → Term
  Nested : Term → Term → Term → Term
  Default : Term
  -- one that may not stand where it does, which no reader answers
  Refused : Kind → Term

pub record StreamOptions : Type 0 where
  pub stream_name : List ℕ
  pub physical : ℕ
  pub generalized : Bool
  pub star : Bool
  pub names : ℕ
  pub prefixes : ℕ
  pub datatypes : ℕ
  pub logical : ℕ
  pub version : ℕ
  pub strict : Bool

pub data Row : Type 0 where
  Options : StreamOptions → Row
  Triple : Term → Term → Term → Row
  Quad : Term → Term → Term → Term → Row
  GraphStart : Term → Row
  GraphEnd : Row
  Namespace : List ℕ → Option Ids → Row
  Entry : Table → ℕ → List ℕ → Row
