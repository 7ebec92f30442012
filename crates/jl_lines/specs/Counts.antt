-- How many of some items are statements, and how many declare a namespace.
use Rattle.std.specs.Prelude.{ℕ, ◌+◌, Bool, true, false, not, List, length}
use Rattle.std.specs.List.{filter}
use Rattle.jl_base.specs.Terms.{Item}
use Rattle.jl_lines.specs.declared.decoding.Counts.{Counts}

abbrev pub is_statement : Item → Bool
is_statement (Item.Triple s p o) = true
is_statement (Item.Quad s p o g) = true
is_statement (Item.Namespace name iri) = false

abbrev pub is_namespace : Item → Bool
is_namespace item = not (is_statement item)

abbrev pub statements : List Item → ℕ
statements items = length (filter is_statement items)

abbrev pub namespaces : List Item → ℕ
namespaces items = length (filter is_namespace items)

-- with these items counted too
abbrev pub with_counted : Counts → List Item → Counts
with_counted counts items = record { statements = counts.statements + statements items; namespaces = counts.namespaces + namespaces items }

-- none yet
abbrev pub none_counted : Counts
none_counted = record { statements = 0; namespaces = 0 }
