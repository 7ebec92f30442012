-- Terms whose texts aren't known yet: they stand in slots of the lookup tables, as these are at some moment.
use Rattle.std.specs.Prelude.{ℕ, List, [], Result, Ok, Err}
use Rattle.jl_base.specs.Terms.{Tail, Value}
use Rattle.jl_base.specs.declared.kind.Kind.{Kind}
use Rattle.jl_rows.specs.declared.row.Table.{Table}
use Rattle.jl_rows.specs.Written.{Ids, Ending, Term}
use Rattle.jl_rows.specs.Values.{Slots, filled}
use Rattle.jl_state.specs.Steps.{text_at}
use Rattle.jl_sym_laws.specs.RelativeIds.{Refs, real_ids, refs_following, refs_written, refs_after}

-- the end of a literal; a datatype by its id, which never counts on from another one
pub data SymTail : Type 0 where
  Simple : SymTail
  Lang : List ℕ → SymTail
  Typed : ℕ → SymTail

pub data SymTerm : Type 0 where
  Iri : Refs → SymTerm
  Bnode : List ℕ → SymTerm
  Literal : List ℕ → SymTail → SymTerm
  Nested : SymTerm → SymTerm → SymTerm → SymTerm
  Default : SymTerm

-- the text that was found; whether one is found is asked beforehand
abbrev pub found : Result (List ℕ) Kind → List ℕ
found (Ok text) = text
found (Err kind) = []

abbrev pub tail_value : Slots → SymTail → Tail
tail_value slots SymTail.Simple = Tail.Simple
tail_value slots (SymTail.Lang tag) = Tail.Lang tag
tail_value slots (SymTail.Typed id) = Tail.Typed (found (filled slots Table.Datatype id))

-- what a term means, once the slots and the incoming last ids are known
abbrev pub sym_value : Slots → Ids → SymTerm → Value
sym_value slots last (SymTerm.Iri r) = Value.Iri (found (text_at slots (real_ids r last)))
sym_value slots last (SymTerm.Bnode label) = Value.Bnode label
sym_value slots last (SymTerm.Literal lex tail) = Value.Literal lex (tail_value slots tail)
sym_value slots last (SymTerm.Nested s p o) = Value.Nested (sym_value slots last s) (sym_value slots last p) (sym_value slots last o)
sym_value slots last SymTerm.Default = Value.Default

-- a term of a run that comes after another one, which leaves these last ids
abbrev pub term_following : Refs → SymTerm → SymTerm
term_following first (SymTerm.Iri r) = SymTerm.Iri (refs_following first r)
term_following first (SymTerm.Bnode label) = SymTerm.Bnode label
term_following first (SymTerm.Literal lex tail) = SymTerm.Literal lex tail
term_following first (SymTerm.Nested s p o) = SymTerm.Nested (term_following first s) (term_following first p) (term_following first o)
term_following first SymTerm.Default = SymTerm.Default

abbrev pub tail_written : Ending → SymTail
tail_written Ending.Simple = SymTail.Simple
tail_written (Ending.Lang tag) = SymTail.Lang tag
tail_written (Ending.Typed id) = SymTail.Typed id

-- A term as it is written, after these last ids. One that isn't set, or may not stand where it does, has no meaning, and
-- asking for it is refused.
abbrev pub term_written : Refs → Term → SymTerm
term_written r Term.Unset = SymTerm.Default
term_written r (Term.Iri i) = SymTerm.Iri (refs_following r (refs_written i))
term_written r (Term.Bnode label) = SymTerm.Bnode label
term_written r (Term.Literal lex e) = SymTerm.Literal lex (tail_written e)
term_written r (Term.Nested s p o) = SymTerm.Nested (term_written r s) (term_written (refs_after s r) p) (term_written (refs_after p (refs_after s r)) o)
term_written r Term.Default = SymTerm.Default
term_written r (Term.Refused k) = SymTerm.Default
