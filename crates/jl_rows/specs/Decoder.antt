-- The decoder: what each row states after the rows before it, or the first fault of its checks, in their order (Jelly RDF
-- serialization, "Stream options", "Physical stream types" and the sections of the rows).
use Rattle.std.specs.Prelude.{ℕ, Bool, true, false, ◌==◌, ◌&&◌, ◌||◌, not, List, [], ◌∷◌, max, Option, Some, None, is_some, Result, Ok, Err, nat_lt, if◌then◌else◌}
use Rattle.std.specs.Str.{bytes_eq}
use Rattle.jl_base.specs.Results.{◌>>=◌, refuse_if, some_or, Reading, followed}
use Rattle.jl_base.specs.Terms.{Value, Item}
use Rattle.jl_base.specs.declared.kind.Kind.{Kind}
use Rattle.jl_base.specs.declared.kind.Kind.TheVariants.{NoOptions, BadOptions, TableTooLarge, OptionsDiffer, WrongRow, BadEntry, NoTerm, NoGraph, GraphOpen, SmallNames, BadLogical, NoStar, NotPlain, EarlyNamespace}
use Rattle.jl_base.specs.declared.place.Place.{Place}
use Rattle.jl_base.specs.declared.place.Fault.{Fault}
use Rattle.jl_rows.specs.declared.row.Table.{Table}
use Rattle.jl_rows.specs.Written.{StreamOptions, Term, Row}
use Rattle.jl_rows.specs.Files.{Placed, all_rows}
use Rattle.jl_rows.specs.History.{History, entry_id, seen_in}
use Rattle.jl_rows.specs.Values.{Position, value, value_in, iri_text, slots_of, last_term, open_graph, set_by, is_unset}

-- the physical types: TRIPLES, QUADS, GRAPHS
abbrev pub is_triples : StreamOptions → Bool
is_triples o = o.physical == 1

abbrev pub is_quads : StreamOptions → Bool
is_quads o = o.physical == 2

abbrev pub is_graphs : StreamOptions → Bool
is_graphs o = o.physical == 3

abbrev pub same_flag : Bool → Bool → Bool
same_flag true b = b
same_flag false b = not b

-- all nine values are the same; the stream name is compared by its bytes
abbrev pub is_same : StreamOptions → StreamOptions → Bool
is_same a b =
    (bytes_eq a.stream_name b.stream_name) && (a.physical == b.physical) && (same_flag a.generalized b.generalized) && (same_flag a.star b.star)
    && (a.names == b.names) && (a.prefixes == b.prefixes) && (a.datatypes == b.datatypes) && (a.logical == b.logical) && (a.version == b.version)

-- how many entries a table may have
abbrev pub size_of : StreamOptions → Table → ℕ
size_of o Table.Name = o.names
size_of o Table.Prefix = o.prefixes
size_of o Table.Datatype = o.datatypes

abbrev pub most_entries : ℕ
most_entries = 65536

-- what is wrong with a file's first row
abbrev pub first_row_checked : Row → Result StreamOptions Kind
first_row_checked (Row.Options o) = do
  _ ← refuse_if (not (is_triples o || is_quads o || is_graphs o) || not ((o.version == 1) || (o.version == 2))) BadOptions
  _ ← refuse_if (nat_lt most_entries (max o.names (max o.prefixes o.datatypes))) TableTooLarge
  Ok o
first_row_checked _ = Err NoOptions

-- the logical types that go with a physical type
abbrev pub goes_with : StreamOptions → Bool
goes_with o = (o.logical == 0) || (is_triples o && ((o.logical == 1) || (o.logical == 3) || (o.logical == 13))) || ((is_quads o || is_graphs o) && ((o.logical == 2) || (o.logical == 4) || (o.logical == 14) || (o.logical == 114)))

-- the options of a first row under the strict profile
abbrev pub strictly : StreamOptions → Result StreamOptions Kind
strictly o = do
  _ ← refuse_if (nat_lt o.names 8) SmallNames
  _ ← refuse_if (not (goes_with o)) BadLogical
  Ok (record o { strict = true })

-- a row that the physical type doesn't have
abbrev pub is_wrong_row : StreamOptions → Row → Bool
is_wrong_row o (Row.Triple s p ob) = is_quads o
is_wrong_row o (Row.Quad s p ob g) = not (is_quads o)
is_wrong_row o (Row.GraphStart g) = not (is_graphs o)
is_wrong_row o Row.GraphEnd = not (is_graphs o)
is_wrong_row o _ = false

-- a position of a statement: its own term, or the last one there
abbrev pub term_at : Position → Row → History → Result Value Kind
term_at x r H = if is_unset (set_by x r) then some_or (last_term x H) NoTerm else value_in x r H

-- the graph that a triple belongs to: none in a TRIPLES file, the open one in a GRAPHS file
abbrev pub graph_around : StreamOptions → History → Result (Option Value) Kind
graph_around o H = if is_graphs o then (some_or (open_graph H) NoGraph >>= λ g. Ok (Some g)) else Ok None

abbrev pub stated : Option Value → Value → Value → Value → Item
stated None s p o = Item.Triple s p o
stated (Some g) s p o = Item.Quad s p o g

-- the last three checks, and what the row states
abbrev pub said_after : StreamOptions → Row → History → Result (List Item) Kind
said_after o (Row.Options p) H = refuse_if (not (is_same o p)) OptionsDiffer >>= λ _. Ok []
said_after o (Row.Entry t id text) H = refuse_if (nat_lt (size_of o t) (entry_id t (Row.Entry t id text ∷ H))) BadEntry >>= λ _. Ok []
said_after o Row.GraphEnd H = some_or (open_graph H) NoGraph >>= λ _. Ok []
said_after o (Row.GraphStart g) H = do
  _ ← refuse_if (is_some (open_graph H)) GraphOpen
  _ ← value (slots_of H) (seen_in H) g
  Ok []
said_after o (Row.Namespace name i) H = do
  _ ← refuse_if (o.strict && (o.version == 1)) EarlyNamespace
  ids ← some_or i NoTerm
  iri ← iri_text (slots_of H) (ids ∷ seen_in H)
  Ok (Item.Namespace name iri ∷ [])
said_after o (Row.Triple s p ob) H = do
  g ← graph_around o H
  a ← term_at Position.Subject (Row.Triple s p ob) H
  b ← term_at Position.Predicate (Row.Triple s p ob) H
  c ← term_at Position.Object (Row.Triple s p ob) H
  Ok (stated g a b c ∷ [])
said_after o (Row.Quad s p ob g) H = do
  a ← term_at Position.Subject (Row.Quad s p ob g) H
  b ← term_at Position.Predicate (Row.Quad s p ob g) H
  c ← term_at Position.Object (Row.Quad s p ob g) H
  d ← term_at Position.Graph (Row.Quad s p ob g) H
  Ok (Item.Quad a b c d ∷ [])

abbrev pub is_predicate : Position → Bool
is_predicate Position.Predicate = true
is_predicate _ = false

abbrev pub is_object : Position → Bool
is_object Position.Object = true
is_object _ = false

-- The strict profile of terms: a triple term stands only where the file declares them, and where it declares no
-- generalized statements a predicate is an IRI, and a literal is an object. What may not stand is refused in its place.
abbrev pub refused_if : Bool → Kind → Term → Term
refused_if true kind t = Term.Refused kind
refused_if false kind t = t

-- a term at a position
abbrev pub guarded : StreamOptions → Position → Term → Term
guarded o x (Term.Bnode label) = refused_if (not o.generalized && is_predicate x) NotPlain (Term.Bnode label)
guarded o x (Term.Literal lex e) = refused_if (not o.generalized && not (is_object x)) NotPlain (Term.Literal lex e)
guarded o x (Term.Nested a b c) =
    refused_if (not o.star) NoStar (refused_if (not o.generalized && is_predicate x) NotPlain (Term.Nested (guarded o Position.Subject a) (guarded o Position.Predicate b) (guarded o Position.Object c)))
guarded o x Term.Default = refused_if (not o.generalized && is_predicate x) NotPlain Term.Default
guarded o x t = t

-- a row with each term at its position
abbrev pub row_guarded : StreamOptions → Row → Row
row_guarded o (Row.Triple s p ob) = Row.Triple (guarded o Position.Subject s) (guarded o Position.Predicate p) (guarded o Position.Object ob)
row_guarded o (Row.Quad s p ob g) = Row.Quad (guarded o Position.Subject s) (guarded o Position.Predicate p) (guarded o Position.Object ob) (guarded o Position.Graph g)
row_guarded o (Row.GraphStart g) = Row.GraphStart (guarded o Position.Graph g)
row_guarded o r = r

-- a row as it is checked: under the strict profile with each term at its position
abbrev pub read_under : StreamOptions → Row → Row
read_under o r = if o.strict then row_guarded o r else r

-- what a row states after a history, or its first fault
abbrev pub meaning : StreamOptions → Row → History → Result (List Item) Kind
meaning o r H = refuse_if (is_wrong_row o r) WrongRow >>= λ _. said_after o (read_under o r) H

-- an answer in front of a reading; a refusal is the fault at that place
abbrev pub led_at : {A : Type 0} → Place → Result (List A) Kind → Reading A Fault → Reading A Fault
led_at place (Ok xs) next = followed xs None next
led_at place (Err kind) next = record { items = []; fault = Some (record { place = place; kind = kind }) }

-- what the rows state one after another, up to the first fault of a row, or else the fault that ends them
unfoldable pub decoded : StreamOptions → History → List Placed → Option Fault → Reading Item Fault
decoded o H [] fault = record { items = []; fault = fault }
decoded o H (r ∷ rs) fault = led_at r.place (meaning o r.row H) (decoded o (r.row ∷ H) rs fault)

abbrev pub decoded_on : StreamOptions → History → Reading Placed Fault → Reading Item Fault
decoded_on o H R = decoded o H R.items R.fault

-- The head of a file: its first row, where there is one.
pub data Head : Type 0 where
  Nothing : Head
  First : StreamOptions → Place → Head
  Bad : Fault → Head

abbrev pub head_checked : Place → Result StreamOptions Kind → Head
head_checked place (Ok o) = First o place
head_checked place (Err kind) = Bad (record { place = place; kind = kind })

abbrev pub head_of : List Placed → Option Fault → Head
head_of [] None = Nothing
head_of [] (Some fault) = Bad fault
head_of (r ∷ rs) fault = head_checked r.place (first_row_checked r.row)

-- under the strict profile, options that keep to what they declare
abbrev pub held_to : Bool → Head → Head
held_to false h = h
held_to true Nothing = Nothing
held_to true (Bad fault) = Bad fault
held_to true (First o place) = head_checked place (strictly o)

-- the head of a file, under the strict profile or not
unfoldable pub head : Bool → List ℕ → Head
head strict file = held_to strict (head_of (all_rows file).items (all_rows file).fault)

abbrev pub decoded_under : Head → List Placed → Option Fault → Reading Item Fault
decoded_under Nothing rows fault = record { items = []; fault = None }
decoded_under (Bad found) rows fault = record { items = []; fault = Some found }
decoded_under (First o place) rows fault = decoded o [] rows fault

-- what a file states, under the strict profile or not, and its first fault
unfoldable pub decode : Bool → List ℕ → Reading Item Fault
decode strict file = decoded_under (head strict file) (all_rows file).items (all_rows file).fault
