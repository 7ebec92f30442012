-- What a file states, by its rows, and the decoding that begins with its first row.
use Rattle.std.proofs.Common.{◌≡◌, Bool, true, false, List, ℕ, [], Option, Some, None, Result, Ok, Err, refl, sym, ◌∙◌, ap, append-nil}
use Rattle.jl_base.specs.Results.{Reading}
use Rattle.jl_base.specs.declared.kind.Kind.{Kind}
use Rattle.jl_base.specs.declared.place.Fault.{Fault}
use Rattle.jl_base.specs.declared.place.Place.{Place}
use Rattle.jl_rows.specs.Decoder as decoder
use Rattle.jl_rows.specs.Decoder.{decode, decoded_on, decoded_under, head, head_checked, head_of, held_to, strictly}
use Rattle.jl_rows.specs.Files.{Placed, all_rows}
use Rattle.jl_rows.specs.Heads.{BeginsWith, head_seen}
use Rattle.jl_rows.specs.Seen.{options_seen}
use Rattle.jl_rows.specs.Written.{StreamOptions}
use Rattle.jl_rows.specs.declared.first_row.Head as code
use Rattle.jl_rows.specs.declared.first_row.Head.TheVariants.{Empty, First, Bad}
use Rattle.jl_rows.specs.declared.options.Options.{Options}
use Rattle.jl_state.specs.States.{opening}
use Rattle.jl_state.specs.Lawful.{state_seen}
use Rattle.jl_state.specs.Running.{run_on}
use Rattle.jl_state.proofs.StepLaw.{opening_stands}
use Rattle.jl_state.proofs.RunLaw.{runs_decode}
use Rattle.jl_lines.specs.Counts.{none_counted, with_counted}
use Rattle.jl_lines.specs.Going.{all_of, outcome, outcome_of}
use Rattle.jl_lines.specs.Writings.{written}
use Rattle.jl_lines.specs.declared.decoding.Counts.{Counts}
use Rattle.jl_lines.specs.declared.decoding.Decoding.{Decoding}
use Rattle.jl_lines.specs.declared.writing.Writing.{Writing}
use Rattle.jl_lines.proofs.GoingLemmas.{counted_none, run_none}
use Rattle.jl_windows.specs.Steps.{head_on}
use Rattle.jl_windows.specs.Streams.{comes_of, comes_to, stated}

-- a file states what its rows do
pub file_stated : (writing : Writing) (strict : Bool) (file : List ℕ) (R : Reading Placed Fault) → all_rows file ≡ R → comes_to writing strict file ≡ comes_of writing strict R
unfolding decode head
file_stated writing strict file R e = ap (comes_of writing strict) e

pub stated_none : (strict : Bool) (fault : Option Fault) → stated strict (record { items = []; fault = fault }) ≡ record { items = []; fault = fault }
stated_none false None = refl
stated_none false (Some fault) = refl
stated_none true None = refl
stated_none true (Some fault) = refl

pub stated_bad : (strict : Bool) (R : Reading Placed Fault) (fault : Fault) → head_on strict R ≡ decoder.Bad fault → stated strict R ≡ record { items = []; fault = Some fault }
stated_bad strict R fault e = ap (λ (h : decoder.Head). decoded_under h R.items R.fault) e

pub stated_first : (strict : Bool) (R : Reading Placed Fault) (o : StreamOptions) (place : Place) → head_on strict R ≡ decoder.First o place → stated strict R ≡ decoded_on o [] R
stated_first strict R o place e = ap (λ (h : decoder.Head). decoded_under h R.items R.fault) e

-- no rows are left, and no lines
pub outcome_none : (bytes : List ℕ) (d : Decoding) (fault : Option Fault) → d.page.lines ≡ [] → outcome bytes d (record { items = []; fault = fault }) ≡ record { lines = []; counts = d.counts; fault = fault }
outcome_none bytes d fault empty =
    ap (outcome_of (written d.writing) d.page.lines d.counts) (run_none (options_seen bytes d.state.options) (state_seen bytes d.state) fault)
    ∙ ap (λ (l : List ℕ). record { lines = l; counts = with_counted d.counts []; fault = fault }) (append-nil d.page.lines ∙ empty)
    ∙ ap (λ (c : Counts). record { lines = []; counts = c; fault = fault }) (counted_none d.counts)

-- from the opening state a run is the decoder
opening_runs : (o : StreamOptions) (R : Reading Placed Fault) → run_on o (opening o) R ≡ decoded_on o [] R
opening_runs o R = runs_decode o (opening o) [] R (opening_stands o)

pub opening_comes : (bytes : List ℕ) (d : Decoding) (options : Options) (w : Writing) (R : Reading Placed Fault) → d.state.options ≡ options → state_seen bytes d.state ≡ opening (options_seen bytes options) → d.page.lines ≡ [] → d.counts ≡ none_counted → d.writing ≡ w
    → outcome bytes d R ≡ all_of (written w) (decoded_on (options_seen bytes options) [] R)
opening_comes bytes d options w R same exact empty none writing =
    let o = options_seen bytes options in
    ap (λ (x : Options). outcome_of (written d.writing) d.page.lines d.counts (run_on (options_seen bytes x) (state_seen bytes d.state) R)) same
    ∙ ap (λ s. outcome_of (written d.writing) d.page.lines d.counts (run_on o s R)) exact
    ∙ ap (λ (l : List ℕ). outcome_of (written d.writing) l d.counts (run_on o (opening o) R)) empty
    ∙ ap (λ (c : Counts). outcome_of (written d.writing) [] c (run_on o (opening o) R)) none
    ∙ ap (λ (x : Writing). all_of (written x) (run_on o (opening o) R)) writing
    ∙ ap (all_of (written w)) (opening_runs o R)

-- the head that the code found, under the strict profile or not
checked_some : (place : Place) (r : Result StreamOptions Kind) → decoder.Nothing ≡ head_checked place r → ⊥
checked_some place (Ok o) e = cc
checked_some place (Err k) e = cc

pub found_none : (strict : Bool) (bytes : List ℕ) (h : code.Head) (R B : Reading Placed Fault) → decoder.Nothing ≡ held_to strict (head_seen bytes h) → BeginsWith bytes R B h → R ≡ B
found_none strict bytes Empty R B e begins = begins
found_none false bytes (First o place) R B e begins = absurd (cc)
found_none true bytes (First o place) R B e begins = absurd (checked_some place (strictly (options_seen bytes o)) e)
found_none false bytes (Bad fault) R B e begins = absurd (cc)
found_none true bytes (Bad fault) R B e begins = absurd (cc)

held_none : (strict : Bool) → held_to strict decoder.Nothing ≡ decoder.Nothing
held_none false = refl
held_none true = refl

pub found_some : (strict : Bool) (bytes : List ℕ) (h : code.Head) (R B : Reading Placed Fault) (x : decoder.Head) → x ≡ held_to strict (head_seen bytes h) → (x ≡ decoder.Nothing → ⊥) → BeginsWith bytes R B h → head_on strict R ≡ x
found_some strict bytes Empty R B x e some begins = absurd (some (e ∙ held_none strict))
found_some strict bytes (First o place) R B x e some begins = ap (held_to strict) begins ∙ sym e
found_some strict bytes (Bad fault) R B x e some begins = ap (held_to strict) begins ∙ sym e
