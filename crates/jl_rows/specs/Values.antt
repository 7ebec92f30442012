-- What the terms of a row mean after a history (Jelly RDF serialization, "RDF terms" and "Repeated terms"), or the first
-- fault in them.
use Rattle.std.specs.Prelude.{ℕ, Bool, true, false, ◌==◌, ◌&&◌, List, [], ◌∷◌, ◌++◌, Option, None, Result, Ok, Err, if◌then◌else◌}
use Rattle.std.specs.Char.{is_ascii_alphabetic, is_ascii_alphanumeric}
use Rattle.jl_base.specs.Results.{◌>>=◌, some_or, answered}
use Rattle.jl_base.specs.Terms.{Tail, Value}
use Rattle.jl_base.specs.declared.kind.Kind.{Kind}
use Rattle.jl_base.specs.declared.kind.Kind.TheVariants.{NoEntry, NoTerm, BadLangtag}
use Rattle.jl_rows.specs.declared.row.Table.{Table}
use Rattle.jl_rows.specs.Written.{Ids, Ending, Term, Row}
use Rattle.jl_rows.specs.History.{History, slot, seen_after, seen_in, prefix_id, name_id}

-- The slots of the lookup tables: what each id stands for. No entry has the id 0.
abbrev pub Slots : Type 0
Slots = Table → ℕ → Option (List ℕ)

abbrev pub filled : Slots → Table → ℕ → Result (List ℕ) Kind
filled slots t id = some_or (slots t id) NoEntry

-- the text of a prefix: empty before any prefix id was given
abbrev pub prefix_text : Slots → ℕ → Result (List ℕ) Kind
prefix_text slots id = if id == 0 then Ok [] else filled slots Table.Prefix id

-- the text of the newest IRI: its prefix's and then its name's
abbrev pub iri_text : Slots → List Ids → Result (List ℕ) Kind
iri_text slots seen = do
  prefix ← prefix_text slots (prefix_id seen)
  name ← filled slots Table.Name (name_id seen)
  Ok (prefix ++ name)

-- A language tag (RDF 1.1 N-Quads, LANGTAG): letters, and then groups of a hyphen with letters and digits.
abbrev mutual
  pub is_tag : List ℕ → Bool
  is_tag [] = false
  is_tag (b ∷ bs) = is_ascii_alphabetic b && is_after_letter bs

  pub is_after_letter : List ℕ → Bool
  is_after_letter [] = true
  is_after_letter (b ∷ bs) = if b == 45 then is_group bs else (is_ascii_alphabetic b && is_after_letter bs)

  pub is_group : List ℕ → Bool
  is_group [] = false
  is_group (b ∷ bs) = is_ascii_alphanumeric b && is_after_group bs

  pub is_after_group : List ℕ → Bool
  is_after_group [] = true
  is_after_group (b ∷ bs) = if b == 45 then is_group bs else (is_ascii_alphanumeric b && is_after_group bs)

abbrev pub tail_of : Slots → Ending → Result Tail Kind
tail_of slots Ending.Simple = Ok Tail.Simple
tail_of slots (Ending.Lang tag) = if is_tag tag then Ok (Tail.Lang tag) else Err BadLangtag
tail_of slots (Ending.Typed id) = filled slots Table.Datatype id >>= λ t. Ok (Tail.Typed t)

-- what a term means, behind these IRIs; it must be set
abbrev pub value : Slots → List Ids → Term → Result Value Kind
value slots seen Term.Unset = Err NoTerm
value slots seen (Term.Iri i) = iri_text slots (i ∷ seen) >>= λ t. Ok (Value.Iri t)
value slots seen (Term.Bnode label) = Ok (Value.Bnode label)
value slots seen (Term.Literal lex e) = tail_of slots e >>= λ t. Ok (Value.Literal lex t)
value slots seen (Term.Nested s p o) = do
  a ← value slots seen s
  b ← value slots (seen_after s seen) p
  c ← value slots (seen_after p (seen_after s seen)) o
  Ok (Value.Nested a b c)
value slots seen Term.Default = Ok Value.Default
value slots seen (Term.Refused k) = Err k

abbrev pub slots_of : History → Slots
slots_of H t id = slot t id H

-- The positions of a statement.
pub data Position : Type 0 where
  Subject Predicate Object Graph : Position

-- the term that a row sets at a position, Unset where it sets none
abbrev pub set_by : Position → Row → Term
set_by Position.Subject (Row.Triple s p o) = s
set_by Position.Predicate (Row.Triple s p o) = p
set_by Position.Object (Row.Triple s p o) = o
set_by Position.Subject (Row.Quad s p o g) = s
set_by Position.Predicate (Row.Quad s p o g) = p
set_by Position.Object (Row.Quad s p o g) = o
set_by Position.Graph (Row.Quad s p o g) = g
set_by _ _ = Term.Unset

-- the IRIs that stand before a position of a row
abbrev pub seen_before : Position → Row → List Ids → List Ids
seen_before Position.Predicate (Row.Triple s p o) seen = seen_after s seen
seen_before Position.Object (Row.Triple s p o) seen = seen_after p (seen_after s seen)
seen_before Position.Predicate (Row.Quad s p o g) seen = seen_after s seen
seen_before Position.Object (Row.Quad s p o g) seen = seen_after p (seen_after s seen)
seen_before Position.Graph (Row.Quad s p o g) seen = seen_after o (seen_after p (seen_after s seen))
seen_before _ _ seen = seen

-- a term of a row after a history
abbrev pub value_in : Position → Row → History → Result Value Kind
value_in x r H = value (slots_of H) (seen_before x r (seen_in H)) (set_by x r)

abbrev pub is_unset : Term → Bool
is_unset Term.Unset = true
is_unset _ = false

-- The last term at a position: what the last row that set it meant there and then.
unfoldable pub last_term : Position → History → Option Value
last_term x [] = None
last_term x (r ∷ H) = if is_unset (set_by x r) then last_term x H else answered (value_in x r H)

-- The open graph: what the last graph start meant, where no graph end follows it.
unfoldable pub open_graph : History → Option Value
open_graph [] = None
open_graph (Row.GraphStart g ∷ H) = answered (value (slots_of H) (seen_in H) g)
open_graph (Row.GraphEnd ∷ H) = None
open_graph (r ∷ H) = open_graph H
