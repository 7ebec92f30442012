-- How what was given to a sink adds up.
use Rattle.std.proofs.Common.{◌≡◌, ℕ, List, [], ◌++◌, Some, Result, Ok, Err, OnOk, subst, refl, ap, sym, ◌∙◌, append_assoc, append-nil, arith}
use Rattle.std.specs.List.{flat_map}
use Rattle.jl_base.specs.Results.{Reading}
use Rattle.jl_base.specs.declared.place.Fault.{Fault}
use Rattle.jl_base.proofs.SinkLemmas.{Adds-nil, Adds-append}
use Rattle.jl_rows.specs.Files.{Placed}
use Rattle.jl_rows.specs.Seen.{options_seen}
use Rattle.jl_state.specs.Lawful.{state_seen}
use Rattle.jl_state.specs.Running.{run_on}
use Rattle.jl_lines.specs.declared.decoding.Counts.{Counts}
use Rattle.jl_lines.specs.declared.decoding.Decoding.{Decoding}
use Rattle.jl_lines.specs.declared.decoding.Refused.TheVariants as refused
use Rattle.jl_lines.specs.declared.giving.Broken.{Broken}
use Rattle.jl_lines.specs.declared.giving.Broken.TheVariants as broken
use Rattle.jl_lines.specs.declared.writing.Writing.{Writing}
use Rattle.jl_state.specs.declared.state.State.{State}
use Rattle.jl_lines.specs.Writings.{written}
use Rattle.jl_lines.specs.Going.{Outcome, Halts, outcome, outcome_of}
use Rattle.jl_lines.specs.Giving.{Outlet, Passes, Breaks, Delivers, Gives, IsBrokenBy}

-- nothing was given
pub passes_none : (said rest : Outcome) (k : Outlet) → said ≡ rest → Passes said k k rest
passes_none said rest k e = record {
  given = [];
  adds = Adds-nil k.held;
  steady = refl;
  lines = ap (λ (x : Outcome). x.lines) e;
  counts = ap (λ (x : Outcome). x.counts) e;
  fault = ap (λ (x : Outcome). x.fault) e;
}

module _ (a b : Outcome) (k k' : Outlet) (first : Passes a k k' b) where
  -- a prefix, and then another
  pub passes_then : (c : Outcome) (k'' : Outlet) → Passes b k' k'' c → Passes a k k'' c
  passes_then c k'' second = record {
    given = first.given ++ second.given;
    adds = Adds-append k.held k'.held k''.held first.given second.given first.adds second.adds;
    steady = second.steady ∙ first.steady;
    lines = first.lines ∙ ap (λ (x : List ℕ). first.given ++ x) second.lines ∙ sym (append_assoc first.given second.given c.lines);
    counts = first.counts ∙ second.counts;
    fault = first.fault ∙ second.fault;
  }

  -- what is left is the same
  pub passes_on : (c : Outcome) → b ≡ c → Passes a k k' c
  passes_on c e = subst (λ (x : Outcome). Passes a k k' x) e first

  earlier : (left : List ℕ) (k'' : Outlet) (why : Broken) → IsBrokenBy b.fault left k' k'' why → IsBrokenBy a.fault left k k'' why
  earlier left k'' (broken.Malformed found) cause = (first.fault ∙ cause.0, cause.1, cause.2 ∙ first.steady)
  earlier left k'' broken.WriteFault cause = let same = first.steady in (omega (arith, same, cause.0), omega (arith, same, cause.1))
  earlier left k'' broken.NoMemory cause = cause ∙ first.steady

  -- a prefix, and then another one and no more
  pub passes_breaks : (k'' : Outlet) (why : Broken) → Breaks b k' k'' why → Breaks a k k'' why
  passes_breaks k'' why second = record {
    given = first.given ++ second.given;
    left = second.left;
    adds = Adds-append k.held k'.held k''.held first.given second.given first.adds second.adds;
    lines = first.lines ∙ ap (λ (x : List ℕ). first.given ++ x) second.lines ∙ sym (append_assoc first.given second.given second.left);
    cause = earlier second.left k'' why second.cause;
  }

-- a prefix, and then what a call delivers
pub passes_delivers : {A : Type 0} (a b : Outcome) (k k' k'' : Outlet) (rest : A → Outcome) (result : Result A Broken) → Passes a k k' b → Delivers b k' k'' rest result → Delivers a k k'' rest result
passes_delivers a b k k' k'' rest (Ok x) first second = passes_then a b k k' first (rest x) k'' second
passes_delivers a b k k' k'' rest (Err why) first second = passes_breaks a b k k' first k'' why second

-- memory wasn't found
pub breaks_memory : (said : Outcome) (k : Outlet) → Breaks said k k broken.NoMemory
breaks_memory said k = record { given = []; left = said.lines; adds = Adds-nil k.held; lines = refl; cause = refl }

-- a fault, and no lines before it that weren't given
pub breaks_fault : (said : Outcome) (k : Outlet) (fault : Fault) → said.fault ≡ Some fault → said.lines ≡ [] → Breaks said k k (broken.Malformed fault)
breaks_fault said k fault e none = record { given = []; left = []; adds = Adds-nil k.held; lines = none; cause = (e, refl, refl) }

-- the sink failed while it was given lines
pub breaks_write : (said : Outcome) (lines more : List ℕ) (k k' : Outlet) (why : Broken) → said.lines ≡ lines ++ more → Gives lines k k' (Err why) → Breaks said k k' why
breaks_write said lines more k k' why e gave =
    subst (λ (x : Broken). Breaks said k k' x) (sym gave.0) (record {
      given = gave.2.done;
      left = gave.2.rest ++ more;
      adds = gave.2.adds;
      lines = e ∙ ap (λ (x : List ℕ). x ++ more) gave.2.split ∙ append_assoc gave.2.done gave.2.rest more;
      cause = gave.1;
    })

-- the sink failed while it was given the lines before a fault
pub breaks_halting : (said : Outcome) (d : Decoding) (k k' : Outlet) (fault : Fault) (why : Broken) → Halts said d (refused.Malformed fault) → Gives d.page.lines k k' (Err why) → Breaks said k k' why
breaks_halting said d k k' fault why halts gave = breaks_write said d.page.lines [] k k' why (halts.1 ∙ sym (append-nil d.page.lines)) gave

-- the lines before a fault were given
pub breaks_halted : (said : Outcome) (d : Decoding) (k k' : Outlet) (fault : Fault) → Halts said d (refused.Malformed fault) → Gives d.page.lines k k' (Ok tt) → Breaks said k k' (broken.Malformed fault)
breaks_halted said d k k' fault halts gave = record {
  given = d.page.lines;
  left = [];
  adds = gave.0;
  lines = halts.1 ∙ sym (append-nil d.page.lines);
  cause = (halts.0, refl, gave.1);
}

-- the page was given and is empty
module _ (bytes : List ℕ) (d d' : Decoding) (R : Reading Placed Fault) where
  pub passes_gave : (k k' : Outlet) → Gives d.page.lines k k' (Ok tt) → d'.page.lines ≡ [] → d'.state ≡ d.state → d'.counts ≡ d.counts → d'.writing ≡ d.writing
      → Passes (outcome bytes d R) k k' (outcome bytes d' R)
  passes_gave k k' gave empty state counts writing =
      let said = run_on (options_seen bytes d.state.options) (state_seen bytes d.state) R in
      let same : outcome bytes d' R ≡ outcome_of (written d.writing) [] d.counts said =
      ap (λ (l : List ℕ). outcome_of (written d'.writing) l d'.counts (run_on (options_seen bytes d'.state.options) (state_seen bytes d'.state) R)) empty
      ∙ ap (λ (w : Writing). outcome_of (written w) [] d'.counts (run_on (options_seen bytes d'.state.options) (state_seen bytes d'.state) R)) writing
      ∙ ap (λ (c : Counts). outcome_of (written d.writing) [] c (run_on (options_seen bytes d'.state.options) (state_seen bytes d'.state) R)) counts
      ∙ ap (λ (s : State). outcome_of (written d.writing) [] d.counts (run_on (options_seen bytes s.options) (state_seen bytes s) R)) state in
      passes_on (outcome bytes d R) (outcome_of (written d.writing) [] d.counts said) k k'
      (record { given = d.page.lines; adds = gave.0; steady = gave.1; lines = refl; counts = refl; fault = refl })
      (outcome bytes d' R) (sym same)

  pub breaks_gave : (k k' : Outlet) (why : Broken) → Gives d.page.lines k k' (Err why) → Breaks (outcome bytes d R) k k' why
  breaks_gave k k' why gave =
      breaks_write (outcome bytes d R) d.page.lines (flat_map (written d.writing) (run_on (options_seen bytes d.state.options) (state_seen bytes d.state) R).items) k k' why refl gave

  pub delivers_gave : (k k' : Outlet) (result : Result (Unit {0}) Broken) → Gives d.page.lines k k' result → OnOk result (d'.page.lines ≡ []) → d'.state ≡ d.state → d'.counts ≡ d.counts → d'.writing ≡ d.writing
      → Delivers (outcome bytes d R) k k' (λ (x : Unit {0}). outcome bytes d' R) result
  delivers_gave k k' (Ok x) gave empty state counts writing = passes_gave k k' gave empty state counts writing
  delivers_gave k k' (Err why) gave empty state counts writing = breaks_gave k k' why gave
