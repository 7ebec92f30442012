-- What a row leaves at a position.
use Rattle.std.specs.Prelude.{ℕ}
use Rattle.jl_rows.specs.Written.{Term}
use Rattle.jl_sym_laws.specs.RelativeIds.{Refs}
use Rattle.jl_sym_laws.specs.Symbols.{term_written}
use Rattle.jl_sym_laws.specs.Summaries.{Left}

abbrev pub set_left : ℕ → Refs → Term → Left
set_left moment r t = Left.Set (record { moment = moment; term = term_written r t })

abbrev pub laid : ℕ → Refs → Term → Left → Left
laid moment r Term.Unset before = before
laid moment r (Term.Iri i) before = set_left moment r (Term.Iri i)
laid moment r (Term.Bnode label) before = set_left moment r (Term.Bnode label)
laid moment r (Term.Literal lex e) before = set_left moment r (Term.Literal lex e)
laid moment r (Term.Nested a b c) before = set_left moment r (Term.Nested a b c)
laid moment r Term.Default before = set_left moment r Term.Default
laid moment r (Term.Refused kind) before = set_left moment r (Term.Refused kind)
