-- The messages of the format, as lists of their known fields (the schema rdf.proto of the Jelly RDF serialization).
use Rattle.jl_rows.specs.declared.message.Message.{Message}
use Rattle.jl_rows.specs.declared.message.Shape.{Shape}
use Rattle.jl_rows.specs.declared.message.Known.{Known}
use Rattle.jl_rows.specs.declared.message.Sort.{Sort}
use Rattle.jl_rows.specs.declared.row.Table.{Table}
use Rattle.std.specs.Prelude.{ℕ, ◌==◌, List, [], ◌∷◌, ◌++◌, find, Option, Some, None, if◌then◌else◌}

-- a known field: its number, what it holds, and its group
abbrev pub known : ℕ → Shape → ℕ → Known
known n s g = record { number = n; shape = s; group = g }

-- a subject, a predicate and an object
abbrev pub triple : List Known
triple =
    known 1 Shape.Iri 0 ∷ known 2 Shape.Label 0 ∷ known 3 Shape.Literal 0 ∷ known 4 Shape.Nested 0 ∷
    known 5 Shape.Iri 1 ∷ known 6 Shape.Label 1 ∷ known 7 Shape.Literal 1 ∷ known 8 Shape.Nested 1 ∷
    known 9 Shape.Iri 2 ∷ known 10 Shape.Label 2 ∷ known 11 Shape.Literal 2 ∷ known 12 Shape.Nested 2 ∷ []

-- the graph of a quad
abbrev pub graph : List Known
graph = known 13 Shape.Iri 3 ∷ known 14 Shape.Label 3 ∷ known 15 Shape.Default 3 ∷ known 16 Shape.Literal 3 ∷ []

-- The known fields of a message. Fields of one group exclude each other; a field in no 'one of' is a group of its own.
abbrev pub table : Message → List Known
table Message.Iri = known 1 Shape.Number 0 ∷ known 2 Shape.Number 1 ∷ []
table Message.Literal = known 1 Shape.Text 0 ∷ known 2 Shape.Text 1 ∷ known 3 Shape.Number 1 ∷ []
table Message.Triple = triple
table Message.Quad = triple ++ graph
table Message.GraphStart = known 1 Shape.Iri 0 ∷ known 2 Shape.Label 0 ∷ known 3 Shape.Default 0 ∷ known 4 Shape.Literal 0 ∷ []
table Message.Namespace = known 1 Shape.Text 0 ∷ known 2 Shape.Iri 1 ∷ []
table Message.Entry = known 1 Shape.Number 0 ∷ known 2 Shape.Text 1 ∷ []
table Message.Options =
    known 1 Shape.Text 0 ∷ known 2 Shape.Number 1 ∷ known 3 Shape.Number 2 ∷ known 4 Shape.Number 3 ∷ known 9 Shape.Number 4 ∷
    known 10 Shape.Number 5 ∷ known 11 Shape.Number 6 ∷ known 14 Shape.Number 7 ∷ known 15 Shape.Number 8 ∷ []
table Message.Empty = []

-- the known field of a number, where the message has one
abbrev pub known_as : Message → ℕ → Option Known
known_as m n = find (λ (k : Known). k.number == n) (table m)

-- what the groups of a message may be counted by: the options have nine
abbrev pub groups : ℕ
groups = 9

-- what a row's one field makes of it, by its number
abbrev pub sort_of : ℕ → Option Sort
sort_of n =
    if n == 1 then Some Sort.Options
    else if n == 2 then Some Sort.Triple
    else if n == 3 then Some Sort.Quad
    else if n == 4 then Some Sort.GraphStart
    else if n == 5 then Some Sort.GraphEnd
    else if n == 6 then Some Sort.Namespace
    else if n == 9 then Some (Sort.Entry Table.Name)
    else if n == 10 then Some (Sort.Entry Table.Prefix)
    else if n == 11 then Some (Sort.Entry Table.Datatype)
    else None
