-- How far a survey has come: its numbers so far, and what it comes to with what is left.
use Rattle.std.specs.Prelude.{◌≡◌, ℕ, ◌+◌, ◌-◌, ◌<◌, ◌≤◌, ◌^◌, List, [], ◌∷◌, ◌++◌, length, map, Option, Some, None, Result, Ok, Err}
use Rattle.std.specs.Option.{option_map}
use Rattle.jl_base.specs.Results.{Reading, joined}
use Rattle.jl_base.specs.Spans.{text_of}
use Rattle.jl_base.specs.declared.place.Fault.{Fault}
use Rattle.jl_wire.specs.Fields.{fields}
use Rattle.jl_rows.specs.declared.options.Options.{Options}
use Rattle.jl_rows.specs.Written.{StreamOptions, Row}
use Rattle.jl_rows.specs.Files.{Placed, frames, frame_rows, all_rows, rows_then}
use Rattle.jl_rows.specs.Decoder.{head_of}
use Rattle.jl_rows.specs.Seen.{options_seen}
use Rattle.jl_rows.specs.Heads.{ArePassed}
use Rattle.jl_frames.specs.Index.{Index, AreLaid, last_end}
use Rattle.jl_survey.specs.declared.numbers.Survey.{Survey}
use Rattle.jl_survey.specs.Surveys.{Surveyed, unless, one_if, rows_that, metadata_among, metadata_of, survey, fault_under, options_in, is_options, is_triple, is_quad, is_graph_start, is_graph_end, is_namespace, is_name, is_prefix, is_datatype}

-- What the code's survey stands for.
abbrev pub survey_seen : List ℕ → Survey → Surveyed
survey_seen bytes s = record {
  bytes = s.bytes;
  frames = s.frames;
  metadata = s.metadata;
  options = option_map (options_seen bytes) s.options;
  option_rows = s.option_rows;
  triples = s.triples;
  quads = s.quads;
  graph_starts = s.graph_starts;
  graph_ends = s.graph_ends;
  namespaces = s.namespaces;
  names = s.names;
  prefixes = s.prefixes;
  datatypes = s.datatypes;
}

-- the options passed the checks of a first row
abbrev pub HaveAllPassed : List ℕ → Option Options → Type 0
HaveAllPassed bytes None = Unit {0}
HaveAllPassed bytes (Some o) = ArePassed bytes o

-- one row more
abbrev pub with_row : Row → Surveyed → Surveyed
with_row r s = record {
  bytes = s.bytes;
  frames = s.frames;
  metadata = s.metadata;
  options = s.options;
  option_rows = s.option_rows + one_if (is_options r);
  triples = s.triples + one_if (is_triple r);
  quads = s.quads + one_if (is_quad r);
  graph_starts = s.graph_starts + one_if (is_graph_start r);
  graph_ends = s.graph_ends + one_if (is_graph_end r);
  namespaces = s.namespaces + one_if (is_namespace r);
  names = s.names + one_if (is_name r);
  prefixes = s.prefixes + one_if (is_prefix r);
  datatypes = s.datatypes + one_if (is_datatype r);
}

-- one frame more, without its rows
abbrev pub with_frame : List ℕ → Surveyed → Surveyed
with_frame body s = record {
  bytes = s.bytes;
  frames = s.frames + 1;
  metadata = s.metadata + metadata_among (fields body).items;
  options = s.options;
  option_rows = s.option_rows;
  triples = s.triples;
  quads = s.quads;
  graph_starts = s.graph_starts;
  graph_ends = s.graph_ends;
  namespaces = s.namespaces;
  names = s.names;
  prefixes = s.prefixes;
  datatypes = s.datatypes;
}

-- the first fault of these rows: before the file's first row was met, also that of a bad head
abbrev pub fault_from : Option StreamOptions → Reading Placed Fault → Option Fault
fault_from None R = fault_under (head_of R.items R.fault) R.fault
fault_from (Some o) R = R.fault

-- the options of the file's first row, which was met before these rows or is the first of them
abbrev pub options_from : Option StreamOptions → Reading Placed Fault → Option StreamOptions
options_from None R = options_in (head_of R.items R.fault)
options_from (Some o) R = Some o

-- so many bytes, these frames and these rows more
abbrev pub with_all : Surveyed → ℕ → List (List ℕ) → Reading Placed Fault → Surveyed
with_all s size bodies R = record {
  bytes = s.bytes + size;
  frames = s.frames + length bodies;
  metadata = s.metadata + metadata_of bodies;
  options = options_from s.options R;
  option_rows = s.option_rows + rows_that is_options R.items;
  triples = s.triples + rows_that is_triple R.items;
  quads = s.quads + rows_that is_quad R.items;
  graph_starts = s.graph_starts + rows_that is_graph_start R.items;
  graph_ends = s.graph_ends + rows_that is_graph_end R.items;
  namespaces = s.namespaces + rows_that is_namespace R.items;
  names = s.names + rows_that is_name R.items;
  prefixes = s.prefixes + rows_that is_prefix R.items;
  datatypes = s.datatypes + rows_that is_datatype R.items;
}

-- What a survey comes to with so many bytes, these frames and these rows left, of which a fault may be the end.
abbrev pub outlook : Surveyed → ℕ → List (List ℕ) → Reading Placed Fault → Result Surveyed Fault
outlook s size bodies R = unless (fault_from s.options R) (with_all s size bodies R)

-- A part of the survey comes on, or to the fault.
abbrev pub ComesOn : Result Surveyed Fault → Result Surveyed Fault → Result (Unit {0}) Fault → Type 0
ComesOn said left (Ok _) = said ≡ left
ComesOn said left (Err fault) = said ≡ Err fault

-- The options of a survey are those of a row of these bytes, or were carried into others.
abbrev pub IsOver : List ℕ → List ℕ → Survey → Type 0
IsOver bytes kept s = s.options ≡ None → kept ≡ bytes

-- These rows are taken, whatever is left after them.
abbrev pub TakesRows : List ℕ → Survey → Reading Placed Fault → Survey → Result (Unit {0}) Fault → Type 0
TakesRows bytes s R s' result = (kept : List ℕ) (size : ℕ) (bodies : List (List ℕ)) (B : Reading Placed Fault) → IsOver bytes kept s
    → ComesOn (outlook (survey_seen kept s) size bodies (joined R B)) (outlook (survey_seen kept s') size bodies B) result

-- A frame of this number is taken.
abbrev pub TakesFrame : List ℕ → Survey → ℕ → List ℕ → Survey → Result (Unit {0}) Fault → Type 0
TakesFrame bytes s number body s' result = (kept : List ℕ) (size : ℕ) (bodies : List (List ℕ)) (B : Reading Placed Fault) → IsOver bytes kept s
    → ComesOn (outlook (survey_seen kept s) size (body ∷ bodies) (joined (frame_rows number body) B)) (outlook (survey_seen kept s') size bodies B) result

-- The frames of an index are taken.
abbrev pub TakesFrames : List ℕ → Survey → Index → Survey → Result (Unit {0}) Fault → Type 0
TakesFrames bytes s index s' result = (kept : List ℕ) (size : ℕ) (bodies : List (List ℕ)) (B : Reading Placed Fault) → IsOver bytes kept s
    → ComesOn (outlook (survey_seen kept s) size (map (text_of bytes) index.bodies ++ bodies) (rows_then index.first (map (text_of bytes) index.bodies) B)) (outlook (survey_seen kept s') size bodies B) result

-- the fault after some frames, or else what follows
abbrev pub ended : Option Fault → Reading Placed Fault → Reading Placed Fault
ended None B = B
ended (Some fault) B = record { items = []; fault = Some fault }

-- the frames of an index are frames of these bytes
abbrev pub AreFramesOf : List ℕ → Index → Type 0
AreFramesOf bytes index = (last : ℕ) × AreLaid index.lo index.bodies last × (last ≤ length bytes)

-- how many bytes they take with their lengths
abbrev pub size_of : Index → ℕ
size_of index = last_end index.lo index.bodies - index.lo

-- A window is taken: its bytes, its frames and its tail fault.
abbrev pub TakesWindow : List ℕ → Survey → Index → Survey → Result (Unit {0}) Fault → Type 0
TakesWindow bytes s index s' result = (kept : List ℕ) (size : ℕ) (bodies : List (List ℕ)) (B : Reading Placed Fault) → IsOver bytes kept s
    → ComesOn (outlook (survey_seen kept s) (size_of index + size) (map (text_of bytes) index.bodies ++ bodies) (rows_then index.first (map (text_of bytes) index.bodies) (ended index.tail B)))
    (outlook (survey_seen kept s') size bodies B) result

-- The options that a survey had stay, and new ones passed the checks of a first row.
pub record KeepsOptions (bytes : List ℕ) (s s' : Survey) : Type 0 where
  pub kept : (o : Options) → s.options ≡ Some o → s'.options ≡ Some o
  pub passed : s.options ≡ None → HaveAllPassed bytes s'.options

-- no number of a survey is greater
pub record AreFew (most : ℕ) (s : Survey) : Type 0 where
  pub bytes : s.bytes ≤ most
  pub frames : s.frames ≤ most
  pub metadata : s.metadata ≤ most
  pub option_rows : s.option_rows ≤ most
  pub triples : s.triples ≤ most
  pub quads : s.quads ≤ most
  pub graph_starts : s.graph_starts ≤ most
  pub graph_ends : s.graph_ends ≤ most
  pub namespaces : s.namespaces ≤ most
  pub names : s.names ≤ most
  pub prefixes : s.prefixes ≤ most
  pub datatypes : s.datatypes ≤ most

-- each number and so many add up to less than 2^63
abbrev pub HasRoom : ℕ → Survey → Type 0
HasRoom n s = (most : ℕ) × AreFew most s × (most + n < 2 ^ 63)

-- so many may be counted, in 64 bits
abbrev pub Fits : ℕ → Survey → Type 0
Fits n s = (most : ℕ) × AreFew most s × (most + n < 2 ^ 64 - 1)

-- no number grew by more than so many
abbrev pub Grew : ℕ → Survey → Survey → Type 0
Grew n s s' = (most : ℕ) → AreFew most s → AreFew (most + n) s'

-- Nothing was counted yet.
abbrev pub empty : Survey
empty = record {
  bytes = 0;
  frames = 0;
  metadata = 0;
  options = None;
  option_rows = 0;
  triples = 0;
  quads = 0;
  graph_starts = 0;
  graph_ends = 0;
  namespaces = 0;
  names = 0;
  prefixes = 0;
  datatypes = 0;
}

-- All of a file is left to a new survey.
abbrev pub BeginsAll : Survey → Type 0
BeginsAll s = (kept file : List ℕ) → outlook (survey_seen kept s) (length file) (frames file).items (all_rows file) ≡ survey file
