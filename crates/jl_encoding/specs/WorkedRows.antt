-- Worked rows: items whose rows, and whose bytes, were written by hand.
use Rattle.std.specs.Prelude.{◌≡◌, ℕ, true, false, List, [], ◌∷◌, ◌++◌, Some, None, Ok, codes}
use Rattle.jl_base.specs.Terms.{Tail, Value, Item}
use Rattle.jl_rows.specs.declared.row.Table.{Table}
use Rattle.jl_rows.specs.Written.{StreamOptions, Ending, Term, Row}
use Rattle.jl_rows.specs.History.{History}
use Rattle.jl_encoding.specs.declared.form.Form.{Form}
use Rattle.jl_encoding.specs.Items.{item_rows}
use Rattle.jl_encoding.specs.Wide.{is_too_wide, wide_from}
use Rattle.jl_encoding.specs.Encoding.{rows_of, wide, encoding}

-- a namespace, and a triple
abbrev pub made : List Item
made =
    Item.Namespace (codes "p0") (codes "http://example.org/v0/")
    ∷ Item.Triple (Value.Iri (codes "http://example.org/v129/n2458")) (Value.Iri (codes "http://example.org/p/26")) (Value.Literal (codes "text 531564") (Tail.Lang (codes "en"))) ∷ []

abbrev pub MadeRows : Type 0
MadeRows = rows_of Form.Triples made ≡ Ok
    ((Row.Entry Table.Prefix 0 (codes "http://example.org/v0/") ∷ Row.Entry Table.Name 0 [] ∷ Row.Namespace (codes "p0") (Some (record { prefix = 1; name = 0 })) ∷ [])
    ∷ (Row.Entry Table.Prefix 0 (codes "http://example.org/v129/") ∷ Row.Entry Table.Name 0 (codes "n2458") ∷ Row.Entry Table.Prefix 0 (codes "http://example.org/p/") ∷ Row.Entry Table.Name 0 (codes "26")
    ∷ Row.Triple (Term.Iri (record { prefix = 2; name = 0 })) (Term.Iri (record { prefix = 3; name = 0 })) (Term.Literal (codes "text 531564") (Ending.Lang (codes "en"))) ∷ []) ∷ [])

-- without items there is one frame, with the options row alone
abbrev pub NoItems : Type 0
NoItems = encoding Form.Triples 256 [] ≡ Ok (0x14 ∷ 0x0A ∷ 0x12 ∷ 0x0A ∷ 0x10 ∷ 0x10 ∷ 0x01 ∷ 0x18 ∷ 0x01 ∷ 0x20 ∷ 0x01 ∷ 0x48 ∷ 0xA0 ∷ 0x1F ∷ 0x50 ∷ 0x96 ∷ 0x01 ∷ 0x58 ∷ 0x20 ∷ 0x78 ∷ 0x02 ∷ [])

-- the 173 bytes of both, in one frame
abbrev pub MadeFile : Type 0
MadeFile = encoding Form.Triples 256 made ≡ Ok (
    0xAB ∷ 0x01 ∷ 0x0A ∷ 0x12 ∷ 0x0A ∷ 0x10 ∷ 0x10 ∷ 0x01 ∷ 0x18 ∷ 0x01 ∷ 0x20 ∷ 0x01 ∷ 0x48 ∷ 0xA0 ∷ 0x1F ∷ 0x50 ∷ 0x96 ∷ 0x01 ∷ 0x58 ∷ 0x20 ∷ 0x78 ∷ 0x02 ∷
    0x0A ∷ 0x1A ∷ 0x52 ∷ 0x18 ∷ 0x12 ∷ 0x16 ∷ (codes "http://example.org/v0/" ++ (0x0A ∷ 0x02 ∷ 0x4A ∷ 0x00 ∷ 0x0A ∷ 0x0A ∷ 0x32 ∷ 0x08 ∷ 0x0A ∷ 0x02 ∷ 0x70 ∷ 0x30 ∷ 0x12 ∷ 0x02 ∷ 0x08 ∷ 0x01 ∷
    0x0A ∷ 0x1C ∷ 0x52 ∷ 0x1A ∷ 0x12 ∷ 0x18 ∷ (codes "http://example.org/v129/" ++ (0x0A ∷ 0x09 ∷ 0x4A ∷ 0x07 ∷ 0x12 ∷ 0x05 ∷ 0x6E ∷ 0x32 ∷ 0x34 ∷ 0x35 ∷ 0x38 ∷
    0x0A ∷ 0x19 ∷ 0x52 ∷ 0x17 ∷ 0x12 ∷ 0x15 ∷ (codes "http://example.org/p/" ++ (0x0A ∷ 0x06 ∷ 0x4A ∷ 0x04 ∷ 0x12 ∷ 0x02 ∷ 0x32 ∷ 0x36 ∷
    0x0A ∷ 0x1D ∷ 0x12 ∷ 0x1B ∷ 0x0A ∷ 0x02 ∷ 0x08 ∷ 0x02 ∷ 0x2A ∷ 0x02 ∷ 0x08 ∷ 0x03 ∷ 0x5A ∷ 0x11 ∷ 0x0A ∷ 0x0B ∷ (codes "text 531564" ++ (0x12 ∷ 0x02 ∷ 0x65 ∷ 0x6E ∷ [])))))))))

abbrev pub of_nodes : List ℕ → List ℕ → List ℕ → Item
of_nodes s p o = Item.Triple (Value.Bnode s) (Value.Bnode p) (Value.Bnode o)

-- Two items to a frame: the third one stands in a second frame.
abbrev pub TwoToAFrame : Type 0
TwoToAFrame = encoding Form.Triples 2 (of_nodes (codes "a") (codes "b") (codes "c") ∷ of_nodes (codes "a") (codes "b") (codes "d") ∷ of_nodes (codes "a") (codes "b") (codes "c") ∷ []) ≡ Ok (
    0x28 ∷ 0x0A ∷ 0x12 ∷ 0x0A ∷ 0x10 ∷ 0x10 ∷ 0x01 ∷ 0x18 ∷ 0x01 ∷ 0x20 ∷ 0x01 ∷ 0x48 ∷ 0xA0 ∷ 0x1F ∷ 0x50 ∷ 0x96 ∷ 0x01 ∷ 0x58 ∷ 0x20 ∷ 0x78 ∷ 0x02 ∷
    0x0A ∷ 0x0B ∷ 0x12 ∷ 0x09 ∷ 0x12 ∷ 0x01 ∷ 0x61 ∷ 0x32 ∷ 0x01 ∷ 0x62 ∷ 0x52 ∷ 0x01 ∷ 0x63 ∷ 0x0A ∷ 0x05 ∷ 0x12 ∷ 0x03 ∷ 0x52 ∷ 0x01 ∷ 0x64 ∷
    0x07 ∷ 0x0A ∷ 0x05 ∷ 0x12 ∷ 0x03 ∷ 0x52 ∷ 0x01 ∷ 0x63 ∷ [])

abbrev pub iri : ℕ → ℕ → Term
iri p n = Term.Iri (record { prefix = p; name = n })

abbrev pub named : List ℕ → Value
named text = Value.Iri text

-- The first IRI needs no prefix; the third needs an entry for the empty one. What is said again is unset.
abbrev pub EmptyPrefixLater : Type 0
EmptyPrefixLater = rows_of Form.Triples (Item.Triple (named (codes "a")) (named (codes "u/b")) (named (codes "c")) ∷ Item.Triple (named (codes "a")) (named (codes "u/b")) (named (codes "c")) ∷ []) ≡ Ok
    ((Row.Entry Table.Name 0 (codes "a") ∷ Row.Entry Table.Prefix 0 (codes "u/") ∷ Row.Entry Table.Name 0 (codes "b") ∷ Row.Entry Table.Prefix 0 [] ∷ Row.Entry Table.Name 0 (codes "c") ∷ Row.Triple (iri 0 0) (iri 1 0) (iri 2 0) ∷ [])
    ∷ (Row.Triple Term.Unset Term.Unset Term.Unset ∷ []) ∷ [])

-- two names, and one prefix
abbrev pub small : StreamOptions
small = record { stream_name = []; physical = 1; generalized = true; star = true; names = 2; prefixes = 1; datatypes = 0; logical = 0; version = 2; strict = false }

abbrev pub two_names : History
two_names = Row.Entry Table.Name 0 (codes "b") ∷ Row.Entry Table.Name 0 (codes "a") ∷ []

-- the next slot in turn is the first, but the item uses it
abbrev pub PassesOver : Type 0
PassesOver = item_rows small two_names (Item.Triple (named (codes "a")) (named (codes "c")) (named (codes "a"))) ≡ Ok (Row.Triple (iri 0 0) (iri 0 0) (iri 0 1) ∷ Row.Entry Table.Name 2 (codes "c") ∷ [])

-- three names are too many for two slots, and the empty prefix counts
abbrev pub ThreeNames : Type 0
ThreeNames = is_too_wide small two_names (Item.Triple (named (codes "a")) (named (codes "b")) (named (codes "c"))) ≡ true

abbrev pub TwoPrefixes : Type 0
TwoPrefixes = is_too_wide small two_names (Item.Triple (named (codes "a")) (named (codes "u/a")) (named (codes "a"))) ≡ true

-- without a datatype's slot
abbrev pub NoDatatypes : Type 0
NoDatatypes = wide_from small two_names 1 (Item.Triple (named (codes "a")) (named (codes "b")) (Value.Literal (codes "1") (Tail.Typed (codes "c"))) ∷ []) ≡ Some 1

abbrev pub MadeFits : Type 0
MadeFits = wide Form.Triples made ≡ None
