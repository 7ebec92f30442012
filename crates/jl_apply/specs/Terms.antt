-- Terms as they are written, by the last ids before them. A text that isn't found is empty.
use Rattle.std.specs.Prelude.{◌+◌, ◌==◌, min, if◌then◌else◌}
use Rattle.jl_base.specs.Terms.{Value}
use Rattle.jl_rows.specs.Written.{Ids, Term}
use Rattle.jl_rows.specs.Values.{Slots}
use Rattle.jl_rows.specs.Decoder.{most_entries}
use Rattle.jl_state.specs.Steps.{text_at}
use Rattle.jl_sym_laws.specs.Symbols.{found, tail_value, tail_written}

-- The last ids once an IRI was read. A name that counts on above all tables stays there, since no slot has its id.
abbrev pub ids_on : Ids → Ids → Ids
ids_on i last = record {
  prefix = if i.prefix == 0 then last.prefix else i.prefix;
  name = if i.name == 0 then min last.name most_entries + 1 else i.name;
}

abbrev pub iri_value : Slots → Ids → Value
iri_value slots ids = Value.Iri (found (text_at slots ids))

-- the last ids after a term
abbrev pub last_on : Term → Ids → Ids
last_on Term.Unset last = last
last_on (Term.Iri i) last = ids_on i last
last_on (Term.Bnode label) last = last
last_on (Term.Literal lex e) last = last
last_on (Term.Nested s p o) last = last_on o (last_on p (last_on s last))
last_on Term.Default last = last
last_on (Term.Refused k) last = last

-- what a term means after these last ids
abbrev pub value_on : Slots → Ids → Term → Value
value_on slots last Term.Unset = Value.Default
value_on slots last (Term.Iri i) = iri_value slots (ids_on i last)
value_on slots last (Term.Bnode label) = Value.Bnode label
value_on slots last (Term.Literal lex e) = Value.Literal lex (tail_value slots (tail_written e))
value_on slots last (Term.Nested s p o) = Value.Nested (value_on slots last s) (value_on slots (last_on s last) p) (value_on slots (last_on p (last_on s last)) o)
value_on slots last Term.Default = Value.Default
value_on slots last (Term.Refused k) = Value.Default
