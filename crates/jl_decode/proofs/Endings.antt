-- From the outcome of a decoding to what a file states.
use Rattle.std.proofs.Common.{◌≡◌, ℕ, ◌+◌, Bool, false, List, [], Option, Some, None, refl, ap, sym, ◌∙◌, append-nil, arith}
use Rattle.jl_base.specs.Results.{Reading}
use Rattle.jl_base.specs.Terms.{Item}
use Rattle.jl_base.specs.declared.place.Place.{Place}
use Rattle.jl_base.specs.declared.place.Fault.{Fault}
use Rattle.jl_text.specs.Line.{line}
use Rattle.jl_rows.specs.Written.{StreamOptions}
use Rattle.jl_rows.specs.Files.{Placed, all_rows}
use Rattle.jl_rows.specs.Seen.{options_seen}
use Rattle.jl_rows.specs.Decoder as decoder
use Rattle.jl_rows.specs.Decoder.{decode, decoded_on, decoded_under, head, held_to}
use Rattle.jl_rows.specs.declared.options.Options.{Options}
use Rattle.jl_state.specs.States.{opening}
use Rattle.jl_state.specs.Lawful.{state_seen}
use Rattle.jl_state.specs.Running.{run_on}
use Rattle.jl_state.proofs.StepLaw.{opening_stands}
use Rattle.jl_state.proofs.RunLaw.{runs_decode}
use Rattle.jl_lines.specs.declared.decoding.Counts.{Counts}
use Rattle.jl_lines.specs.declared.decoding.Decoding.{Decoding}
use Rattle.jl_decode.specs.declared.file.Tally.{Tally}
use Rattle.jl_lines.specs.declared.giving.Broken.TheVariants as broken
use Rattle.jl_decode.specs.declared.write.Ended.TheVariants as ended
use Rattle.jl_lines.specs.declared.writing.Writing.{Writing}
use Rattle.jl_lines.specs.Counts.{none_counted, with_counted, statements, namespaces}
use Rattle.jl_decode.specs.Tallies.{counts_of}
use Rattle.jl_lines.specs.Writings.{written}
use Rattle.jl_decode.specs.Writes.{WritesLines}
use Rattle.jl_lines.specs.Going.{all_of, at_end, outcome, outcome_of}
use Rattle.jl_lines.specs.Giving.{Outlet, Passes, Breaks}
use Rattle.jl_lines.proofs.GoingLemmas.{counted_none, run_none}

-- no rows are left, and no lines
pub outcome_none : (bytes : List ℕ) (d : Decoding) (fault : Option Fault) → d.page.lines ≡ [] → outcome bytes d (record { items = []; fault = fault }) ≡ record { lines = []; counts = d.counts; fault = fault }
outcome_none bytes d fault empty =
    ap (outcome_of (written d.writing) d.page.lines d.counts) (run_none (options_seen bytes d.state.options) (state_seen bytes d.state) fault)
    ∙ ap (λ (l : List ℕ). record { lines = l; counts = with_counted d.counts []; fault = fault }) (append-nil d.page.lines ∙ empty)
    ∙ ap (λ (c : Counts). record { lines = []; counts = c; fault = fault }) (counted_none d.counts)

-- from the opening state a run is the decoder
pub opening_runs : (o : StreamOptions) (R : Reading Placed Fault) → run_on o (opening o) R ≡ decoded_on o [] R
opening_runs o R = runs_decode o (opening o) [] R (opening_stands o)

pub opening_comes : (bytes : List ℕ) (d : Decoding) (options : Options) (w : Writing) (R : Reading Placed Fault) → d.state.options ≡ options → state_seen bytes d.state ≡ opening (options_seen bytes options) → d.page.lines ≡ [] → d.counts ≡ none_counted → d.writing ≡ w
    → outcome bytes d R ≡ all_of (written w) (decoded_on (options_seen bytes options) [] R)
opening_comes bytes d options w R same exact empty none writing =
    let o = options_seen bytes options in
    ap (λ (x : Options). outcome_of (written d.writing) d.page.lines d.counts (run_on (options_seen bytes x) (state_seen bytes d.state) R)) same
    ∙ ap (λ s. outcome_of (written d.writing) d.page.lines d.counts (run_on o s R)) exact
    ∙ ap (λ (l : List ℕ). outcome_of (written d.writing) l d.counts (run_on o (opening o) R)) empty
    ∙ ap (λ (c : Counts). outcome_of (written d.writing) [] c (run_on o (opening o) R)) none
    ∙ ap (λ (x : Writing). all_of (written x) (run_on o (opening o) R)) writing
    ∙ ap (all_of (written w)) (opening_runs o R)

-- the heads of a file
pub head_under : (file : List ℕ) (strict : Bool) (h h' : decoder.Head) → h ≡ head false file → h' ≡ held_to strict h → h' ≡ head strict file
unfolding head
head_under file strict h h' e e' = e' ∙ ap (held_to strict) e

module _ (file : List ℕ) (strict : Bool) where
  pub decode_empty : decoder.Nothing ≡ head strict file → decode strict file ≡ record { items = []; fault = None }
  unfolding decode
  decode_empty e = ap (λ (x : decoder.Head). decoded_under x (all_rows file).items (all_rows file).fault) (sym e)

  pub decode_bad : (fault : Fault) → decoder.Bad fault ≡ head strict file → decode strict file ≡ record { items = []; fault = Some fault }
  unfolding decode
  decode_bad fault e = ap (λ (x : decoder.Head). decoded_under x (all_rows file).items (all_rows file).fault) (sym e)

  pub decode_first : (o : StreamOptions) (place : Place) → decoder.First o place ≡ head strict file → decode strict file ≡ decoded_on o [] (all_rows file)
  unfolding decode
  decode_first o place e = ap (λ (x : decoder.Head). decoded_under x (all_rows file).items (all_rows file).fault) (sym e)

-- what was given is what was written
module _ (said : Reading Item Fault) (k k' : Outlet) where
  pub wrote_whole : (counts : Counts) → Passes (all_of line said) k k' (at_end counts) → WritesLines said k.held k'.held k.faults k'.faults ended.Whole
  wrote_whole counts all = let same = all.steady in record {
    given = all.given;
    left = [];
    lines = all.lines;
    adds = all.adds;
    later = omega (arith, same);
    steady = same;
    cause = (all.fault, refl);
  }

  pub wrote_malformed : (fault : Fault) → Breaks (all_of line said) k k' (broken.Malformed fault) → WritesLines said k.held k'.held k.faults k'.faults (ended.Malformed fault)
  wrote_malformed fault broke = let same = broke.cause.2 in record {
    given = broke.given;
    left = broke.left;
    lines = broke.lines;
    adds = broke.adds;
    later = omega (arith, same);
    steady = same;
    cause = (broke.cause.0, broke.cause.1);
  }

  pub wrote_failed : Breaks (all_of line said) k k' broken.WriteFault → WritesLines said k.held k'.held k.faults k'.faults ended.WriteFault
  wrote_failed broke = record {
    given = broke.given;
    left = broke.left;
    lines = broke.lines;
    adds = broke.adds;
    later = broke.cause.1;
    steady = tt;
    cause = broke.cause.0;
  }

  pub wrote_some : Breaks (all_of line said) k k' broken.NoMemory → WritesLines said k.held k'.held k.faults k'.faults ended.NoMemory
  wrote_some broke = let same = broke.cause in record {
    given = broke.given;
    left = broke.left;
    lines = broke.lines;
    adds = broke.adds;
    later = omega (arith, same);
    steady = same;
    cause = tt;
  }

same_tally : (t : Tally) (f s n : ℕ) → t.frames ≡ f → t.statements ≡ s → t.namespaces ≡ n → t ≡ record { frames = f; statements = s; namespaces = n }
same_tally t f s n p q r =
    ap (λ (x : ℕ). record { frames = x; statements = t.statements; namespaces = t.namespaces }) p
    ∙ ap (λ (x : ℕ). record { frames = f; statements = x; namespaces = t.namespaces }) q
    ∙ ap (λ (x : ℕ). record { frames = f; statements = s; namespaces = x }) r

pub tallied : (writes : Item → List ℕ) (said : Reading Item Fault) (k k' : Outlet) (t : Tally) (count : ℕ) → Passes (all_of writes said) k k' (at_end (counts_of t)) → t.frames ≡ count
    → (said.fault ≡ None) × (t ≡ record { frames = count; statements = statements said.items; namespaces = namespaces said.items })
tallied writes said k k' t count all frames =
    let s : 0 + statements said.items ≡ t.statements = ap (λ (c : Counts). c.statements) all.counts in
    let n : 0 + namespaces said.items ≡ t.namespaces = ap (λ (c : Counts). c.namespaces) all.counts in
    (all.fault, same_tally t count (statements said.items) (namespaces said.items) frames (omega (arith, s)) (omega (arith, n)))
