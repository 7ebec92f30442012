-- The texts that a state holds, one after another: the stream's name, those of the filled slots in the order of the
-- tables, and those of the last terms and the open graph. A text that two of them share stands there for each.
use Rattle.std.specs.Prelude.{ℕ, List, [], ◌++◌, Option, Some, None}
use Rattle.std.specs.List.{flat_map}
use Rattle.jl_base.specs.Terms as terms
use Rattle.jl_rows.specs.Written.{StreamOptions}
use Rattle.jl_state.specs.States.{State, Filling}

-- the text of a slot, where it is filled
abbrev pub slot_text : Option (List ℕ) → List ℕ
slot_text None = []
slot_text (Some text) = text

abbrev pub table_text : Filling → List ℕ
table_text slots = flat_map slot_text slots

abbrev pub tail_text : terms.Tail → List ℕ
tail_text terms.Simple = []
tail_text (terms.Lang tag) = tag
tail_text (terms.Typed iri) = iri

abbrev pub value_text : terms.Value → List ℕ
value_text (terms.Iri iri) = iri
value_text (terms.Bnode label) = label
value_text (terms.Literal lex tail) = lex ++ tail_text tail
value_text (terms.Nested s p o) = value_text s ++ value_text p ++ value_text o
value_text terms.Default = []

-- the text of a term, where there is one
abbrev pub maybe_text : Option terms.Value → List ℕ
maybe_text None = []
maybe_text (Some value) = value_text value

abbrev pub terms_text : State → List ℕ
terms_text s = maybe_text s.subject ++ maybe_text s.predicate ++ maybe_text s.object ++ maybe_text s.graph ++ maybe_text s.open_graph

abbrev pub texts_of : StreamOptions → State → List ℕ
texts_of o s = o.stream_name ++ table_text s.tables.names ++ table_text s.tables.prefixes ++ table_text s.tables.datatypes ++ terms_text s
