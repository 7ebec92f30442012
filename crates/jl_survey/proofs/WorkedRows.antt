-- Files that were written out by hand, and what a survey and its report say of them, held against the definitions by
-- computing.
use Rattle.std.proofs.Common.{◌≡◌, ℕ, false, List, [], ◌∷◌, ◌++◌, Ok, Err, Some, codes, refl}
use Rattle.std.specs.Fmt.{digits}
use Rattle.std.specs.Str.{is_utf8, chars}
use lib.Utf8.{encode}
use Rattle.jl_base.specs.declared.kind.Kind.TheVariants.{Truncated, NoOptions}
use Rattle.jl_wire.specs.Varint.{varint, varint_within}
use Rattle.jl_wire.specs.Fields.{field, fields_after}
use Rattle.jl_rows.specs.Reading.{walk, read_on, iri, literal, empty, content_said, message}
use Rattle.jl_rows.specs.Rows.{options, triple, quad, graph_start, namespace, entry, row_walk, row_on, row}
use Rattle.jl_rows.specs.Files.{rows_among, rows, frames_after, placed, rows_from, fault_at}
use Rattle.jl_rows.specs.Decoder.{head}
use Rattle.jl_text.specs.Line.{string_byte}
use Rattle.jl_survey.specs.Surveys.{wire_fault, surveyed, survey}
use Rattle.jl_survey.specs.Reports.{valued, number_line, flag, physical_type, form_line, tables_line, stream_line, options_lines, inspect_report, valid_report}

-- TRIPLES, tables of 8, one name and one triple
abbrev one_triple : List ℕ
one_triple = 0x23 ∷ 0x0A ∷ 0x0C ∷ 0x0A ∷ 0x0A ∷ 0x10 ∷ 0x01 ∷ 0x48 ∷ 0x08 ∷ 0x50 ∷ 0x08 ∷ 0x58 ∷ 0x08 ∷ 0x78 ∷ 0x01 ∷ 0x0A ∷ 0x05 ∷ 0x4A ∷ 0x03 ∷ 0x12 ∷ 0x01 ∷ 0x61 ∷ 0x0A ∷ 0x0C ∷ 0x12 ∷ 0x0A ∷ 0x0A ∷ 0x00 ∷ 0x2A ∷ 0x02 ∷ 0x10 ∷ 0x01 ∷ 0x4A ∷ 0x02 ∷ 0x10 ∷ 0x01 ∷ []

-- a frame that has metadata alone
abbrev with_metadata : List ℕ
with_metadata = one_triple ++ 0x05 ∷ 0x7A ∷ 0x03 ∷ 0x0A ∷ 0x01 ∷ 0x6B ∷ []

numbers_of_one_triple : survey one_triple ≡ Ok (record {
  bytes = 36;
  frames = 1;
  metadata = 0;
  options = Some (record { stream_name = []; physical = 1; generalized = false; star = false; names = 8; prefixes = 8; datatypes = 8; logical = 0; version = 1; strict = false });
  option_rows = 1;
  triples = 1;
  quads = 0;
  graph_starts = 0;
  graph_ends = 0;
  namespaces = 0;
  names = 1;
  prefixes = 0;
  datatypes = 0;
})
unfolding survey surveyed wire_fault head rows_from placed frames_after rows rows_among row row_on row_walk options triple quad graph_start namespace entry message content_said empty literal iri read_on walk fields_after field varint varint_within is_utf8 chars encode
numbers_of_one_triple = refl

report_of_one_triple : inspect_report (surveyed one_triple) ≡ codes "bytes: 36\nframes: 1\nmetadata: 0\noptions: physical TRIPLES, logical 0, version 1, generalized no, star no\ntables: names 8, prefixes 8, datatypes 8\nstream name: \"\"\noptions rows: 1\ntriples: 1\nquads: 0\ngraph starts: 0\ngraph ends: 0\nnamespaces: 0\nname entries: 1\nprefix entries: 0\ndatatype entries: 0\n"
unfolding inspect_report options_lines form_line tables_line stream_line physical_type flag number_line valued digits string_byte surveyed head rows_from placed frames_after rows rows_among row row_on row_walk options triple quad graph_start namespace entry message content_said empty literal iri read_on walk fields_after field varint varint_within is_utf8 chars encode
report_of_one_triple = refl

report_of_metadata : inspect_report (surveyed with_metadata) ≡ codes "bytes: 42\nframes: 2\nmetadata: 1\noptions: physical TRIPLES, logical 0, version 1, generalized no, star no\ntables: names 8, prefixes 8, datatypes 8\nstream name: \"\"\noptions rows: 1\ntriples: 1\nquads: 0\ngraph starts: 0\ngraph ends: 0\nnamespaces: 0\nname entries: 1\nprefix entries: 0\ndatatype entries: 0\n"
unfolding inspect_report options_lines form_line tables_line stream_line physical_type flag number_line valued digits string_byte surveyed head rows_from placed frames_after rows rows_among row row_on row_walk options triple quad graph_start namespace entry message content_said empty literal iri read_on walk fields_after field varint varint_within is_utf8 chars encode
report_of_metadata = refl

-- a name that was never written is no fault here
unresolved : survey (0x16 ∷ 0x0A ∷ 0x0C ∷ 0x0A ∷ 0x0A ∷ 0x10 ∷ 0x01 ∷ 0x48 ∷ 0x08 ∷ 0x50 ∷ 0x08 ∷ 0x58 ∷ 0x08 ∷ 0x78 ∷ 0x01 ∷ 0x0A ∷ 0x06 ∷ 0x12 ∷ 0x04 ∷ 0x0A ∷ 0x02 ∷ 0x10 ∷ 0x05 ∷ []) ≡ Ok (record {
  bytes = 23;
  frames = 1;
  metadata = 0;
  options = Some (record { stream_name = []; physical = 1; generalized = false; star = false; names = 8; prefixes = 8; datatypes = 8; logical = 0; version = 1; strict = false });
  option_rows = 1;
  triples = 1;
  quads = 0;
  graph_starts = 0;
  graph_ends = 0;
  namespaces = 0;
  names = 0;
  prefixes = 0;
  datatypes = 0;
})
unfolding survey surveyed wire_fault head rows_from placed frames_after rows rows_among row row_on row_walk options triple quad graph_start namespace entry message content_said empty literal iri read_on walk fields_after field varint varint_within is_utf8 chars encode
unresolved = refl

-- a file of no bytes
report_of_nothing : inspect_report (surveyed []) ≡ codes "bytes: 0\nframes: 0\nmetadata: 0\noptions: none\noptions rows: 0\ntriples: 0\nquads: 0\ngraph starts: 0\ngraph ends: 0\nnamespaces: 0\nname entries: 0\nprefix entries: 0\ndatatype entries: 0\n"
unfolding inspect_report options_lines form_line tables_line stream_line physical_type flag number_line valued digits surveyed head rows_from frames_after
report_of_nothing = refl

fault_of_nothing : survey [] ≡ Ok (surveyed [])
unfolding survey surveyed wire_fault head rows_from frames_after
fault_of_nothing = refl

-- the last byte is missing, and the frame with it; a row is cut off behind its tag
cut_file : survey (0x05 ∷ 0x0A ∷ 0x04 ∷ 0x4A ∷ 0x03 ∷ []) ≡ Err (fault_at 1 0 Truncated)
unfolding survey surveyed wire_fault head rows_from placed frames_after rows rows_among row row_on row_walk options triple quad graph_start namespace entry message content_said empty literal iri read_on walk fields_after field varint varint_within is_utf8 chars encode
cut_file = refl

cut_row : survey (0x05 ∷ 0x0A ∷ 0x04 ∷ 0x4A ∷ 0x03 ∷ 0x12 ∷ []) ≡ Err (fault_at 1 1 Truncated)
unfolding survey surveyed wire_fault head rows_from placed frames_after rows rows_among row row_on row_walk options triple quad graph_start namespace entry message content_said empty literal iri read_on walk fields_after field varint varint_within is_utf8 chars encode
cut_row = refl

-- a name in front of the options
no_options : survey (0x07 ∷ 0x0A ∷ 0x05 ∷ 0x4A ∷ 0x03 ∷ 0x12 ∷ 0x01 ∷ 0x61 ∷ []) ≡ Err (fault_at 1 1 NoOptions)
unfolding survey surveyed wire_fault head rows_from placed frames_after rows rows_among row row_on row_walk options triple quad graph_start namespace entry message content_said empty literal iri read_on walk fields_after field varint varint_within is_utf8 chars encode
no_options = refl

nothing_is_valid : valid_report 0 0 0 ≡ codes "valid: 0 frames, 0 statements, 0 namespaces\n"
unfolding valid_report valued digits
nothing_is_valid = refl
