-- One row more, one frame more, nothing more, and everything from nothing on.
use Rattle.std.proofs.Common.{◌≡◌, ℕ, ◌+◌, ◌≤◌, Bool, true, false, List, [], ◌∷◌, length, Option, Some, None, Ok, Err, refl, ap, sym, arith, add_assoc, add-zero, zero-add}
use Rattle.jl_base.specs.Results.{Reading, with_front}
use Rattle.jl_base.specs.declared.kind.Kind.{Kind}
use Rattle.jl_base.specs.declared.place.Fault.{Fault}
use Rattle.jl_wire.specs.Fields.{fields}
use Rattle.jl_rows.specs.Written.{StreamOptions, Row}
use Rattle.jl_rows.specs.Files.{Placed}
use Rattle.jl_rows.specs.Decoder.{head, first_row_checked}
use Rattle.jl_survey.specs.declared.numbers.Survey.{Survey}
use Rattle.jl_survey.specs.Surveys.{Surveyed, unless, survey, surveyed, wire_fault, one_if, metadata_among, metadata_of, is_options, is_triple, is_quad, is_graph_start, is_graph_end, is_namespace, is_name, is_prefix, is_datatype}
use Rattle.jl_survey.specs.Counting.{survey_seen, with_row, with_frame, fault_from, options_from, with_all, outlook, empty, AreFew, BeginsAll, Grew}

-- the numbers under these options
abbrev counted : Surveyed → ℕ → List (List ℕ) → List Placed → Option StreamOptions → Surveyed
counted s n bodies ps options = record (with_all s n bodies (record { items = ps; fault = None })) { options = options }

row_added : (s : Surveyed) (n : ℕ) (bodies : List (List ℕ)) (p : Placed) (ps : List Placed) (o : Option StreamOptions) → counted s n bodies (p ∷ ps) o ≡ counted (with_row p.row s) n bodies ps o
row_added s n bodies p ps o = simp add_assoc

frame_added : (s : Surveyed) (n : ℕ) (body : List ℕ) (bodies : List (List ℕ)) (ps : List Placed) (o : Option StreamOptions) → counted s n (body ∷ bodies) ps o ≡ counted (with_frame body s) n bodies ps o
frame_added s n body bodies ps o =
    let frames : s.frames + length (body ∷ bodies) ≡ (s.frames + 1) + length bodies = omega arith in
    let metadata : s.metadata + metadata_of (body ∷ bodies) ≡ (s.metadata + metadata_among (fields body).items) + metadata_of bodies = sym (add_assoc s.metadata (metadata_among (fields body).items) (metadata_of bodies)) in
    rw (frames, metadata) refl

nothing_added : (s : Surveyed) → counted s 0 [] [] s.options ≡ s
nothing_added s = simp add-zero

module _ (s : Surveyed) (n : ℕ) (bodies : List (List ℕ)) where
  module _ (p : Placed) (R : Reading Placed Fault) where
    -- a row after the file's first one
    pub row_known : (o : StreamOptions) → s.options ≡ Some o → outlook s n bodies (with_front p R) ≡ outlook (with_row p.row s) n bodies R
    row_known o e = rw e (ap (unless R.fault) (row_added s n bodies p R.items (Some o)))

    -- the file's first row
    pub row_first : (o : StreamOptions) → s.options ≡ None → first_row_checked p.row ≡ Ok o → outlook s n bodies (with_front p R) ≡ outlook (with_row p.row (record s { options = Some o })) n bodies R
    row_first o e said = rw (e, said) (ap (unless R.fault) (row_added s n bodies p R.items (Some o)))

    pub row_refused : (k : Kind) → s.options ≡ None → first_row_checked p.row ≡ Err k → outlook s n bodies (with_front p R) ≡ Err (record { place = p.place; kind = k })
    row_refused k e said = rw (e, said) refl

  pub frame_counted : (body : List ℕ) (R : Reading Placed Fault) → outlook s n (body ∷ bodies) R ≡ outlook (with_frame body s) n bodies R
  frame_counted body R = ap (unless (fault_from s.options R)) (frame_added s n body bodies R.items (options_from s.options R))

  pub bytes_counted : (m : ℕ) (R : Reading Placed Fault) → outlook s (m + n) bodies R ≡ outlook (record s { bytes = s.bytes + m }) n bodies R
  bytes_counted m R =
      let bytes : s.bytes + (m + n) ≡ (s.bytes + m) + n = sym (add_assoc s.bytes m n) in
      rw bytes refl

fault_stays : (o : Option StreamOptions) (fault : Option Fault) → fault_from o (record { items = []; fault = fault }) ≡ fault
fault_stays None None = refl
fault_stays None (Some fault) = refl
fault_stays (Some o) fault = refl

options_stay : (o : Option StreamOptions) → options_from o (record { items = []; fault = None }) ≡ o
options_stay None = refl
options_stay (Some o) = refl

pub nothing_left : (s : Surveyed) → outlook s 0 [] (record { items = []; fault = None }) ≡ Ok s
nothing_left s = rw (fault_stays s.options None, options_stay s.options) (ap Ok (nothing_added s))

pub fault_left : (s : Surveyed) (n : ℕ) (bodies : List (List ℕ)) (fault : Fault) → outlook s n bodies (record { items = []; fault = Some fault }) ≡ Err fault
fault_left s n bodies fault = rw (fault_stays s.options (Some fault)) refl

pub all_begins : BeginsAll empty
unfolding survey wire_fault surveyed head
all_begins kept file = simp zero-add

pub few_at_start : AreFew 0 empty
few_at_start = record {
  bytes = omega arith;
  frames = omega arith;
  metadata = omega arith;
  option_rows = omega arith;
  triples = omega arith;
  quads = omega arith;
  graph_starts = omega arith;
  graph_ends = omega arith;
  namespaces = omega arith;
  names = omega arith;
  prefixes = omega arith;
  datatypes = omega arith;
}

-- how numbers grow
pub few_up_to : (most next : ℕ) (s : Survey) → AreFew most s → most ≤ next → AreFew next s
few_up_to most next s few le = record {
  bytes = omega (arith, few.bytes, le);
  frames = omega (arith, few.frames, le);
  metadata = omega (arith, few.metadata, le);
  option_rows = omega (arith, few.option_rows, le);
  triples = omega (arith, few.triples, le);
  quads = omega (arith, few.quads, le);
  graph_starts = omega (arith, few.graph_starts, le);
  graph_ends = omega (arith, few.graph_ends, le);
  namespaces = omega (arith, few.namespaces, le);
  names = omega (arith, few.names, le);
  prefixes = omega (arith, few.prefixes, le);
  datatypes = omega (arith, few.datatypes, le);
}

pub grew_same : (n : ℕ) (s : Survey) → Grew n s s
grew_same n s most few = few_up_to most (most + n) s few (omega arith)

pub grew_then : (a b n : ℕ) (s t u : Survey) → Grew a s t → Grew b t u → a + b ≤ n → Grew n s u
grew_then a b n s t u first second le most few = few_up_to (most + a + b) (most + n) u (second (most + a) (first most few)) (omega (arith, le))

at_most_one : (b : Bool) → one_if b ≤ 1
at_most_one true = omega arith
at_most_one false = omega arith

-- a row more
pub grew_row : (bytes : List ℕ) (s s' : Survey) (row : Row) → survey_seen bytes s' ≡ with_row row (survey_seen bytes s) → Grew 1 s s'
grew_row bytes s s' row e most few = record {
  bytes = omega (arith, few.bytes, ap (λ (t : Surveyed). t.bytes) e);
  frames = omega (arith, few.frames, ap (λ (t : Surveyed). t.frames) e);
  metadata = omega (arith, few.metadata, ap (λ (t : Surveyed). t.metadata) e);
  option_rows = omega (arith, few.option_rows, at_most_one (is_options row), ap (λ (t : Surveyed). t.option_rows) e);
  triples = omega (arith, few.triples, at_most_one (is_triple row), ap (λ (t : Surveyed). t.triples) e);
  quads = omega (arith, few.quads, at_most_one (is_quad row), ap (λ (t : Surveyed). t.quads) e);
  graph_starts = omega (arith, few.graph_starts, at_most_one (is_graph_start row), ap (λ (t : Surveyed). t.graph_starts) e);
  graph_ends = omega (arith, few.graph_ends, at_most_one (is_graph_end row), ap (λ (t : Surveyed). t.graph_ends) e);
  namespaces = omega (arith, few.namespaces, at_most_one (is_namespace row), ap (λ (t : Surveyed). t.namespaces) e);
  names = omega (arith, few.names, at_most_one (is_name row), ap (λ (t : Surveyed). t.names) e);
  prefixes = omega (arith, few.prefixes, at_most_one (is_prefix row), ap (λ (t : Surveyed). t.prefixes) e);
  datatypes = omega (arith, few.datatypes, at_most_one (is_datatype row), ap (λ (t : Surveyed). t.datatypes) e);
}

-- a frame more, and no row
pub grew_frame : (bytes body : List ℕ) (n : ℕ) (s s' : Survey) → survey_seen bytes s' ≡ with_frame body (survey_seen bytes s) → s'.metadata ≤ s.metadata + n → Grew (n + 1) s s'
grew_frame bytes body n s s' e metadata most few = record {
  bytes = omega (arith, few.bytes, ap (λ (t : Surveyed). t.bytes) e);
  frames = omega (arith, few.frames, ap (λ (t : Surveyed). t.frames) e);
  metadata = omega (arith, few.metadata, metadata);
  option_rows = omega (arith, few.option_rows, ap (λ (t : Surveyed). t.option_rows) e);
  triples = omega (arith, few.triples, ap (λ (t : Surveyed). t.triples) e);
  quads = omega (arith, few.quads, ap (λ (t : Surveyed). t.quads) e);
  graph_starts = omega (arith, few.graph_starts, ap (λ (t : Surveyed). t.graph_starts) e);
  graph_ends = omega (arith, few.graph_ends, ap (λ (t : Surveyed). t.graph_ends) e);
  namespaces = omega (arith, few.namespaces, ap (λ (t : Surveyed). t.namespaces) e);
  names = omega (arith, few.names, ap (λ (t : Surveyed). t.names) e);
  prefixes = omega (arith, few.prefixes, ap (λ (t : Surveyed). t.prefixes) e);
  datatypes = omega (arith, few.datatypes, ap (λ (t : Surveyed). t.datatypes) e);
}
