-- What a known term means: its texts in place of where they lie.
use Rattle.std.specs.Prelude.{◌≡◌, ℕ, ◌+◌, ◌<◌, max, ◌++◌, List}
use Rattle.jl_state.specs.declared.known.KnownThree.{KnownThree}
use Rattle.jl_base.specs.Terms as terms
use Rattle.jl_state.specs.declared.known.KnownTail.{KnownTail}
use Rattle.jl_state.specs.declared.known.KnownTail.TheVariants as tails
use Rattle.jl_state.specs.declared.known.Known.{Known, Iri, Bnode, Literal, Default, Triple', Row_of-KnownThree, end_of-KnownThree, more_of-KnownThree}
use Rattle.jl_state.specs.Extents.{text_in, IsHeld, IsSound}

abbrev pub tail_value : List ℕ → KnownTail → terms.Tail
tail_value bytes tails.Simple = terms.Simple
tail_value bytes (tails.Lang e) = terms.Lang (text_in bytes e)
tail_value bytes (tails.Typed e) = terms.Typed (text_in bytes e)

abbrev mutual
  pub known_value : List ℕ → Known → terms.Value
  known_value bytes (Triple' shape held) = three_value bytes held
  known_value bytes (Iri prefix name) = terms.Iri (text_in bytes prefix ++ text_in bytes name)
  known_value bytes (Bnode label) = terms.Bnode (text_in bytes label)
  known_value bytes (Literal lex tail) = terms.Literal (text_in bytes lex) (tail_value bytes tail)
  known_value bytes Default = terms.Default

  -- the terms of a triple term
  pub three_value : {m : _} → List ℕ → Row_of-KnownThree m → terms.Value
  three_value bytes end_of-KnownThree = terms.Default
  three_value bytes (more_of-KnownThree s p o rest) = terms.Nested (known_value bytes s) (known_value bytes p) (known_value bytes o)

abbrev pub HasTail : List ℕ → KnownTail → Type 0
HasTail bytes tails.Simple = Unit {0}
HasTail bytes (tails.Lang e) = IsHeld bytes e
HasTail bytes (tails.Typed e) = IsSound bytes e

abbrev mutual
  pub HasKnown : List ℕ → Known → Type 0
  HasKnown bytes (Triple' shape held) = HasThree bytes held
  HasKnown bytes (Iri prefix name) = IsSound bytes prefix × IsSound bytes name
  HasKnown bytes (Bnode label) = IsHeld bytes label
  HasKnown bytes (Literal lex tail) = IsHeld bytes lex × HasTail bytes tail
  HasKnown bytes Default = Unit {0}

  pub HasThree : {m : _} → List ℕ → Row_of-KnownThree m → Type 0
  HasThree bytes end_of-KnownThree = Unit {0}
  HasThree bytes (more_of-KnownThree s p o rest) = HasKnown bytes s × HasKnown bytes p × HasKnown bytes o

-- how deep a value nests
abbrev pub depth : terms.Value → ℕ
depth (terms.Iri t) = 0
depth (terms.Bnode t) = 0
depth (terms.Literal t e) = 0
depth (terms.Nested s p o) = max (depth s) (max (depth p) (depth o)) + 1
depth terms.Default = 0

-- The terms of a triple term, where they are held: each is less deep than the whole, and keeps what the whole keeps.
pub record ArePart (bytes : List ℕ) (whole part : Known) : Type 0 where
  pub less : depth (known_value bytes part) < depth (known_value bytes whole)
  pub has : HasKnown bytes whole → HasKnown bytes part

pub record AreParts (bytes : List ℕ) (whole : Known) (three : KnownThree) : Type 0 where
  pub s : ArePart bytes whole three.s
  pub p : ArePart bytes whole three.p
  pub o : ArePart bytes whole three.o
  pub value : known_value bytes whole ≡ terms.Nested (known_value bytes three.s) (known_value bytes three.p) (known_value bytes three.o)
