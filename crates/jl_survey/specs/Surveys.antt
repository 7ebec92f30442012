-- What a survey tells of a file: how many rows of each sort there are, without what they mean, or the fault that keeps its
-- rows from being read.
use Rattle.std.specs.Prelude.{ℕ, ◌+◌, Bool, true, false, ◌==◌, List, [], ◌∷◌, length, Option, Some, None, Result, Ok, Err}
use Rattle.jl_base.specs.declared.place.Fault.{Fault}
use Rattle.jl_wire.specs.Fields.{Field, fields}
use Rattle.jl_rows.specs.declared.row.Table.{Table}
use Rattle.jl_rows.specs.Written.{StreamOptions, Row}
use Rattle.jl_rows.specs.Files.{Placed, frames, all_rows}
use Rattle.jl_rows.specs.Decoder.{Head, head}

-- The sorts of rows.
abbrev pub is_options : Row → Bool
is_options (Row.Options o) = true
is_options _ = false

abbrev pub is_triple : Row → Bool
is_triple (Row.Triple s p o) = true
is_triple _ = false

abbrev pub is_quad : Row → Bool
is_quad (Row.Quad s p o g) = true
is_quad _ = false

abbrev pub is_graph_start : Row → Bool
is_graph_start (Row.GraphStart g) = true
is_graph_start _ = false

abbrev pub is_graph_end : Row → Bool
is_graph_end Row.GraphEnd = true
is_graph_end _ = false

abbrev pub is_namespace : Row → Bool
is_namespace (Row.Namespace name iri) = true
is_namespace _ = false

abbrev pub is_name : Row → Bool
is_name (Row.Entry Table.Name id text) = true
is_name _ = false

abbrev pub is_prefix : Row → Bool
is_prefix (Row.Entry Table.Prefix id text) = true
is_prefix _ = false

abbrev pub is_datatype : Row → Bool
is_datatype (Row.Entry Table.Datatype id text) = true
is_datatype _ = false

abbrev pub one_if : Bool → ℕ
one_if true = 1
one_if false = 0

-- how many rows are of a sort
abbrev pub rows_that : (Row → Bool) → List Placed → ℕ
rows_that is [] = 0
rows_that is (p ∷ ps) = one_if (is p.row) + rows_that is ps

-- Metadata are the fields 15 of a frame (Jelly RDF serialization, "RdfStreamFrame").
abbrev pub is_metadata : Field → Bool
is_metadata f = f.number == 15

abbrev pub metadata_among : List Field → ℕ
metadata_among [] = 0
metadata_among (f ∷ fs) = one_if (is_metadata f) + metadata_among fs

-- how many metadata the frames with these bodies have
abbrev pub metadata_of : List (List ℕ) → ℕ
metadata_of [] = 0
metadata_of (body ∷ bodies) = metadata_among (fields body).items + metadata_of bodies

-- the fault of a bad head, or else the one that ends the rows
abbrev pub fault_under : Head → Option Fault → Option Fault
fault_under (Head.Bad fault) behind = Some fault
fault_under _ behind = behind

unfoldable pub wire_fault : List ℕ → Option Fault
wire_fault file = fault_under (head false file) (all_rows file).fault

-- the options of the first row; a file without rows has none
abbrev pub options_in : Head → Option StreamOptions
options_in (Head.First o place) = Some o
options_in _ = None

pub record Surveyed : Type 0 where
  pub bytes : ℕ
  pub frames : ℕ
  pub metadata : ℕ
  pub options : Option StreamOptions
  pub option_rows : ℕ
  pub triples : ℕ
  pub quads : ℕ
  pub graph_starts : ℕ
  pub graph_ends : ℕ
  pub namespaces : ℕ
  pub names : ℕ
  pub prefixes : ℕ
  pub datatypes : ℕ

-- the numbers of a file
unfoldable pub surveyed : List ℕ → Surveyed
surveyed file = record {
  bytes = length file;
  frames = length (frames file).items;
  metadata = metadata_of (frames file).items;
  options = options_in (head false file);
  option_rows = rows_that is_options (all_rows file).items;
  triples = rows_that is_triple (all_rows file).items;
  quads = rows_that is_quad (all_rows file).items;
  graph_starts = rows_that is_graph_start (all_rows file).items;
  graph_ends = rows_that is_graph_end (all_rows file).items;
  namespaces = rows_that is_namespace (all_rows file).items;
  names = rows_that is_name (all_rows file).items;
  prefixes = rows_that is_prefix (all_rows file).items;
  datatypes = rows_that is_datatype (all_rows file).items;
}

abbrev pub unless : Option Fault → Surveyed → Result Surveyed Fault
unless None numbers = Ok numbers
unless (Some fault) numbers = Err fault

-- the numbers of a file, or the fault that keeps its rows from being read
unfoldable pub survey : List ℕ → Result Surveyed Fault
survey file = unless (wire_fault file) (surveyed file)
