-- Bytes that were written by hand, and their spelling.
use Rattle.std.proofs.Common.{◌≡◌, List, [], ◌∷◌, ◌++◌, true, false, refl, codes, Some}
use Rattle.jl_rows.specs.declared.row.Table.{Table}
use Rattle.jl_rows.specs.Written.{Ending, Term, Row}
use Rattle.jl_spell.specs.Varints.{varint_within, varint_of}
use Rattle.jl_spell.specs.Fields.{field_of}
use Rattle.jl_spell.specs.Messages.{message_of}
use Rattle.jl_spell.specs.Rows.{row_of}
use Rattle.jl_spell.specs.Frames.{body_of, frames_of}

-- TRIPLES, generalized, with triple terms, tables of 4000, 150 and 32 entries, version 2
abbrev pub triples : Row
triples = Row.Options (record { stream_name = []; physical = 1; generalized = true; star = true; names = 4000; prefixes = 150; datatypes = 32; logical = 0; version = 2; strict = false })

pub options_row : row_of triples ≡ 0x0A ∷ 0x10 ∷ 0x10 ∷ 0x01 ∷ 0x18 ∷ 0x01 ∷ 0x20 ∷ 0x01 ∷ 0x48 ∷ 0xA0 ∷ 0x1F ∷ 0x50 ∷ 0x96 ∷ 0x01 ∷ 0x58 ∷ 0x20 ∷ 0x78 ∷ 0x02 ∷ []
unfolding row_of message_of field_of varint_of varint_within
options_row = refl

-- two made items: a namespace, and a triple
abbrev pub made : List Row
made =
    triples ∷ Row.Entry Table.Prefix 0 (codes "http://example.org/v0/") ∷ Row.Entry Table.Name 0 [] ∷ Row.Namespace (codes "p0") (Some (record { prefix = 1; name = 0 })) ∷
    Row.Entry Table.Prefix 0 (codes "http://example.org/v129/") ∷ Row.Entry Table.Name 0 (codes "n2458") ∷ Row.Entry Table.Prefix 0 (codes "http://example.org/p/") ∷ Row.Entry Table.Name 0 (codes "26") ∷
    Row.Triple (Term.Iri (record { prefix = 2; name = 0 })) (Term.Iri (record { prefix = 3; name = 0 })) (Term.Literal (codes "text 531564") (Ending.Lang (codes "en"))) ∷ []

pub made_file : frames_of (body_of made ∷ []) ≡
    0xAB ∷ 0x01 ∷ 0x0A ∷ 0x12 ∷ 0x0A ∷ 0x10 ∷ 0x10 ∷ 0x01 ∷ 0x18 ∷ 0x01 ∷ 0x20 ∷ 0x01 ∷ 0x48 ∷ 0xA0 ∷ 0x1F ∷ 0x50 ∷ 0x96 ∷ 0x01 ∷ 0x58 ∷ 0x20 ∷ 0x78 ∷ 0x02 ∷
    0x0A ∷ 0x1A ∷ 0x52 ∷ 0x18 ∷ 0x12 ∷ 0x16 ∷ (codes "http://example.org/v0/" ++ (0x0A ∷ 0x02 ∷ 0x4A ∷ 0x00 ∷ 0x0A ∷ 0x0A ∷ 0x32 ∷ 0x08 ∷ 0x0A ∷ 0x02 ∷ 0x70 ∷ 0x30 ∷ 0x12 ∷ 0x02 ∷ 0x08 ∷ 0x01 ∷
    0x0A ∷ 0x1C ∷ 0x52 ∷ 0x1A ∷ 0x12 ∷ 0x18 ∷ (codes "http://example.org/v129/" ++ (0x0A ∷ 0x09 ∷ 0x4A ∷ 0x07 ∷ 0x12 ∷ 0x05 ∷ 0x6E ∷ 0x32 ∷ 0x34 ∷ 0x35 ∷ 0x38 ∷
    0x0A ∷ 0x19 ∷ 0x52 ∷ 0x17 ∷ 0x12 ∷ 0x15 ∷ (codes "http://example.org/p/" ++ (0x0A ∷ 0x06 ∷ 0x4A ∷ 0x04 ∷ 0x12 ∷ 0x02 ∷ 0x32 ∷ 0x36 ∷
    0x0A ∷ 0x1D ∷ 0x12 ∷ 0x1B ∷ 0x0A ∷ 0x02 ∷ 0x08 ∷ 0x02 ∷ 0x2A ∷ 0x02 ∷ 0x08 ∷ 0x03 ∷ 0x5A ∷ 0x11 ∷ 0x0A ∷ 0x0B ∷ (codes "text 531564" ++ (0x12 ∷ 0x02 ∷ 0x65 ∷ 0x6E ∷ []))))))))
unfolding row_of message_of field_of varint_of varint_within
made_file = refl

-- a 'one of' is written also where it is 0 or empty, and a field above 15 takes two bytes for its tag
pub typed_with_0 : row_of (Row.Quad Term.Unset Term.Unset Term.Unset (Term.Literal (codes "a") (Ending.Typed 0))) ≡ 0x1A ∷ 0x08 ∷ 0x82 ∷ 0x01 ∷ 0x05 ∷ 0x0A ∷ 0x01 ∷ 0x61 ∷ 0x18 ∷ 0x00 ∷ []
unfolding row_of message_of field_of varint_of varint_within
typed_with_0 = refl

pub empty_tag : row_of (Row.GraphStart (Term.Literal [] (Ending.Lang []))) ≡ 0x22 ∷ 0x04 ∷ 0x22 ∷ 0x02 ∷ 0x12 ∷ 0x00 ∷ []
unfolding row_of message_of field_of varint_of varint_within
empty_tag = refl

pub nested_terms : row_of (Row.Triple (Term.Bnode []) (Term.Nested Term.Unset (Term.Iri (record { prefix = 0; name = 5 })) Term.Unset) (Term.Iri (record { prefix = 0; name = 0 })))
    ≡ 0x12 ∷ 0x0A ∷ 0x12 ∷ 0x00 ∷ 0x42 ∷ 0x04 ∷ 0x2A ∷ 0x02 ∷ 0x10 ∷ 0x05 ∷ 0x4A ∷ 0x00 ∷ []
unfolding row_of message_of field_of varint_of varint_within
nested_terms = refl

pub default_graph : row_of (Row.Quad Term.Unset Term.Unset Term.Unset Term.Default) ≡ 0x1A ∷ 0x02 ∷ 0x7A ∷ 0x00 ∷ []
unfolding row_of message_of field_of varint_of varint_within
default_graph = refl

pub graph_end : row_of Row.GraphEnd ≡ 0x2A ∷ 0x00 ∷ []
unfolding row_of message_of field_of varint_of varint_within
graph_end = refl

-- the largest number takes ten bytes
pub ten_bytes : varint_of 18446744073709551615 ≡ 255 ∷ 255 ∷ 255 ∷ 255 ∷ 255 ∷ 255 ∷ 255 ∷ 255 ∷ 255 ∷ 1 ∷ []
unfolding varint_of varint_within
ten_bytes = refl
