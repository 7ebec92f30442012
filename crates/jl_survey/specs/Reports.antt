-- The reports of the tool. Each line ends with a line feed; numbers are decimal.
use Rattle.std.specs.Prelude.{ℕ, Bool, true, false, ◌==◌, List, ◌++◌, Option, Some, None, codes, if◌then◌else◌}
use Rattle.std.specs.Fmt.{decimal}
use Rattle.jl_text.specs.Line.{string_text}
use Rattle.jl_rows.specs.Written.{StreamOptions}
use Rattle.jl_survey.specs.Surveys.{Surveyed}

-- a text with a number behind it
unfoldable pub valued : List ℕ → ℕ → List ℕ
valued text n = text ++ decimal n

unfoldable pub number_line : List ℕ → ℕ → List ℕ
number_line label n = valued (label ++ codes ": ") n ++ codes "\n"

unfoldable pub flag : Bool → List ℕ
flag true = codes "yes"
flag false = codes "no"

unfoldable pub physical_type : ℕ → List ℕ
physical_type n = if n == 1 then codes "TRIPLES" else if n == 2 then codes "QUADS" else codes "GRAPHS"

-- The options of the file: the physical type and the numbers, the sizes of its tables, and the name of its stream.
unfoldable pub form_line : StreamOptions → List ℕ
form_line o =
    codes "options: physical " ++ physical_type o.physical ++ valued (codes ", logical ") o.logical ++ valued (codes ", version ") o.version
    ++ codes ", generalized " ++ flag o.generalized ++ codes ", star " ++ flag o.star ++ codes "\n"

unfoldable pub tables_line : StreamOptions → List ℕ
tables_line o = valued (codes "tables: names ") o.names ++ valued (codes ", prefixes ") o.prefixes ++ valued (codes ", datatypes ") o.datatypes ++ codes "\n"

unfoldable pub stream_line : StreamOptions → List ℕ
stream_line o = codes "stream name: " ++ string_text o.stream_name ++ codes "\n"

unfoldable pub options_lines : Option StreamOptions → List ℕ
options_lines None = codes "options: none\n"
options_lines (Some o) = form_line o ++ tables_line o ++ stream_line o

abbrev pub file_lines : Surveyed → List ℕ
file_lines s = number_line (codes "bytes") s.bytes ++ number_line (codes "frames") s.frames ++ number_line (codes "metadata") s.metadata

abbrev pub statement_lines : Surveyed → List ℕ
statement_lines s = number_line (codes "options rows") s.option_rows ++ number_line (codes "triples") s.triples ++ number_line (codes "quads") s.quads

abbrev pub graph_lines : Surveyed → List ℕ
graph_lines s = number_line (codes "graph starts") s.graph_starts ++ number_line (codes "graph ends") s.graph_ends ++ number_line (codes "namespaces") s.namespaces

abbrev pub entry_lines : Surveyed → List ℕ
entry_lines s = number_line (codes "name entries") s.names ++ number_line (codes "prefix entries") s.prefixes ++ number_line (codes "datatype entries") s.datatypes

-- what is told of a file that was surveyed
unfoldable pub inspect_report : Surveyed → List ℕ
inspect_report s = file_lines s ++ options_lines s.options ++ statement_lines s ++ graph_lines s ++ entry_lines s

-- what is told of a file without a fault
unfoldable pub valid_report : ℕ → ℕ → ℕ → List ℕ
valid_report frames statements namespaces =
    valued (codes "valid: ") frames ++ valued (codes " frames, ") statements ++ valued (codes " statements, ") namespaces ++ codes " namespaces\n"
