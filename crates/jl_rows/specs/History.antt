-- What the rows of a file so far say of the lookup tables and of the last ids (Jelly RDF serialization, "Lookup tables"
-- and "Prefix and name lookup"). A history is these rows, the newest first.
use Rattle.std.specs.Prelude.{ℕ, ◌+◌, Bool, true, false, ◌==◌, ◌&&◌, List, [], ◌∷◌, map, filter_map, Option, Some, None, if◌then◌else◌}
use Rattle.std.specs.Option.{option_or}
use Rattle.jl_rows.specs.declared.row.Table.{Table}
use Rattle.jl_rows.specs.Written.{Ids, Term, Row}

abbrev pub History : Type 0
History = List Row

-- the last number above 0, or 0 where there is none; the newest stands first
abbrev pub last_above_0 : List ℕ → ℕ
last_above_0 [] = 0
last_above_0 (n ∷ ns) = if n == 0 then last_above_0 ns else n

-- how many numbers came after that one
abbrev pub after_it : List ℕ → ℕ
after_it [] = 0
after_it (n ∷ ns) = if n == 0 then after_it ns + 1 else 0

-- The rule for 0, for entries and for names: the last number above 0, and one more for each that came after it.
abbrev pub counted : List ℕ → ℕ
counted ns = last_above_0 ns + after_it ns

abbrev pub is_table : Table → Table → Bool
is_table Table.Name Table.Name = true
is_table Table.Prefix Table.Prefix = true
is_table Table.Datatype Table.Datatype = true
is_table _ _ = false

-- the id that a row writes as an entry of the table
abbrev pub id_written : Table → Row → Option ℕ
id_written t (Row.Entry u id text) = if is_table t u then Some id else None
id_written t _ = None

-- the ids written in the table's entries
abbrev pub ids_written : Table → History → List ℕ
ids_written t H = filter_map (id_written t) H

-- the id of the table's last entry, or 0 before the first
abbrev pub entry_id : Table → History → ℕ
entry_id t H = counted (ids_written t H)

-- the text that a row writes as the table's entry of this id; its own id is the one that the history has with it
abbrev pub text_written : Table → ℕ → Row → History → Option (List ℕ)
text_written t id (Row.Entry u written text) H = if is_table t u && (entry_id t (Row.Entry u written text ∷ H) == id) then Some text else None
text_written t id _ H = None

-- the text of the table's last entry of this id
unfoldable pub slot : Table → ℕ → History → Option (List ℕ)
slot t id [] = None
slot t id (r ∷ H) = option_or (text_written t id r H) (slot t id H)

-- IRIs that were read, the newest first: those seen before a term, and then the term's own in their order
abbrev pub seen_after : Term → List Ids → List Ids
seen_after (Term.Iri i) seen = i ∷ seen
seen_after (Term.Nested s p o) seen = seen_after o (seen_after p (seen_after s seen))
seen_after _ seen = seen

-- those of a row: subject, predicate, object, graph
abbrev pub seen_after_row : Row → List Ids → List Ids
seen_after_row (Row.Triple s p o) seen = seen_after o (seen_after p (seen_after s seen))
seen_after_row (Row.Quad s p o g) seen = seen_after g (seen_after o (seen_after p (seen_after s seen)))
seen_after_row (Row.GraphStart g) seen = seen_after g seen
seen_after_row (Row.Namespace name (Some i)) seen = i ∷ seen
seen_after_row _ seen = seen

-- all IRIs of a history
unfoldable pub seen_in : History → List Ids
seen_in [] = []
seen_in (r ∷ H) = seen_after_row r (seen_in H)

-- the prefix id of the newest IRI: the last one above 0, or 0
abbrev pub prefix_id : List Ids → ℕ
prefix_id seen = last_above_0 (map (λ (i : Ids). i.prefix) seen)

-- the name id of the newest IRI, by the rule for 0
abbrev pub name_id : List Ids → ℕ
name_id seen = counted (map (λ (i : Ids). i.name) seen)
