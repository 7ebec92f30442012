-- What the code keeps of a row's terms, and which terms it stands for.
use Rattle.jl_base.specs.Terms.{Tail, Value}
use Rattle.jl_rows.specs.Written.{Ids, Ending, Term}
use Rattle.jl_encode.specs.declared.stated.IriIds.{IriIds}
use Rattle.jl_encode.specs.declared.stated.StatedThree.{StatedThree}
use Rattle.jl_encode.specs.declared.stated.Stated.{Stated, Texts, Iri, Typed, Triple', Row_of-StatedThree, end_of-StatedThree, more_of-StatedThree}

abbrev pub ids_stated : IriIds → Ids
ids_stated i = record { prefix = i.prefix; name = i.name }

abbrev pub ending_stated : Tail → Stated → Ending
ending_stated (Tail.Typed iri) (Typed n) = Ending.Typed n
ending_stated (Tail.Lang tag) Texts = Ending.Lang tag
ending_stated tail x = Ending.Simple

-- the term that a row states of a value
abbrev mutual
  pub stated : Value → Stated → Term
  stated (Value.Iri text) (Iri i) = Term.Iri (ids_stated i)
  stated (Value.Bnode label) Texts = Term.Bnode label
  stated (Value.Literal lex tail) (Typed n) = Term.Literal lex (ending_stated tail (Typed n))
  stated (Value.Literal lex tail) Texts = Term.Literal lex (ending_stated tail Texts)
  stated (Value.Nested s p o) (Triple' shape held) = stated_three s p o held
  stated Value.Default Texts = Term.Default
  stated v x = Term.Unset

  pub stated_three : {m : _} → Value → Value → Value → Row_of-StatedThree m → Term
  stated_three s p o end_of-StatedThree = Term.Unset
  stated_three s p o (more_of-StatedThree a b c rest) = Term.Nested (stated s a) (stated p b) (stated o c)

-- that of a triple term
abbrev pub nested_stated : Value → Value → Value → StatedThree → Term
nested_stated s p o x = Term.Nested (stated s x.s) (stated p x.p) (stated o x.o)
