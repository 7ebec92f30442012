use Rattle.std.proofs.Common.{◌≡◌, false, [], ◌∷◌, refl, Some, None}
use Rattle.std.specs.Str.{is_utf8, chars}
use lib.Utf8.{encode}
use Rattle.jl_base.specs.Terms.{Value, Item}
use Rattle.jl_base.specs.declared.kind.Kind.TheVariants.{Truncated}
use Rattle.jl_wire.specs.Varint.{varint, varint_within}
use Rattle.jl_wire.specs.Fields.{field, fields_after}
use Rattle.jl_rows.specs.Reading.{walk, read_on, iri, literal, empty, content_said, message}
use Rattle.jl_rows.specs.Rows.{options, triple, quad, graph_start, namespace, entry, row_walk, row_on, row}
use Rattle.jl_rows.specs.Files.{rows_among, rows, frames_after, placed, rows_from, fault_at}
use Rattle.jl_rows.specs.History.{slot, seen_in}
use Rattle.jl_rows.specs.Values.{last_term, open_graph}
use Rattle.jl_rows.specs.Decoder.{decoded, head, decode}

abbrev pub a : Value
a = Value.Iri (97 ∷ [])

pub one_triple : decode false (0x23 ∷ 0x0A ∷ 0x0C ∷ 0x0A ∷ 0x0A ∷ 0x10 ∷ 0x01 ∷ 0x48 ∷ 0x08 ∷ 0x50 ∷ 0x08 ∷ 0x58 ∷ 0x08 ∷ 0x78 ∷ 0x01 ∷ 0x0A ∷ 0x05 ∷ 0x4A ∷ 0x03 ∷ 0x12 ∷ 0x01 ∷ 0x61 ∷ 0x0A ∷ 0x0C ∷ 0x12 ∷ 0x0A ∷ 0x0A ∷ 0x00 ∷ 0x2A ∷ 0x02 ∷ 0x10 ∷ 0x01 ∷ 0x4A ∷ 0x02 ∷ 0x10 ∷ 0x01 ∷ [])
    ≡ record { items = Item.Triple a a a ∷ []; fault = None }
unfolding decode head decoded last_term open_graph slot seen_in rows_from placed frames_after rows rows_among row row_on row_walk options triple quad graph_start namespace entry message content_said empty literal iri read_on walk fields_after field varint varint_within is_utf8 chars encode
one_triple = refl

pub cut_frame : decode false (0x05 ∷ 0x0A ∷ 0x04 ∷ 0x4A ∷ 0x03 ∷ 0x12 ∷ []) ≡ record { items = []; fault = Some (fault_at 1 1 Truncated) }
unfolding decode head decoded last_term open_graph slot seen_in rows_from placed frames_after rows rows_among row row_on row_walk options triple quad graph_start namespace entry message content_said empty literal iri read_on walk fields_after field varint varint_within is_utf8 chars encode
cut_frame = refl
