-- How a decoding comes on, row by row.
use Rattle.std.proofs.Common.{◌≡◌, ℕ, ◌+◌, Bool, length, length-append, List, [], ◌++◌, Option, Some, None, Ok, Err, subst, refl, ap, sym, ◌∙◌, append_assoc, append-nil, arith}
use Rattle.std.specs.List.{filter, flat_map}
use Rattle.std.proofs.lemmas.Grind.{flat_map-append}
use Rattle.std.proofs.lemmas.List.Elements.{filter-append}
use Rattle.jl_base.specs.Results.{Reading, followed, with_front}
use Rattle.jl_base.specs.Terms.{Item}
use Rattle.jl_base.specs.declared.kind.Kind.{Kind}
use Rattle.jl_base.specs.declared.place.Fault.{Fault}
use Rattle.jl_rows.specs.Written.{StreamOptions}
use Rattle.jl_rows.specs.Files.{Placed}
use Rattle.jl_rows.specs.Seen.{options_seen}
use Rattle.jl_rows.specs.declared.options.Options.{Options}
use Rattle.jl_state.specs.States.{State}
use Rattle.jl_state.specs.Steps.{Stepped, step}
use Rattle.jl_state.specs.Lawful.{state_seen}
use Rattle.jl_state.specs.Running.{stepped, run, run_on}
use Rattle.jl_lines.specs.declared.decoding.Counts.{Counts}
use Rattle.jl_lines.specs.declared.decoding.Decoding.{Decoding}
use Rattle.jl_lines.specs.declared.decoding.Refused.{Refused}
use Rattle.jl_lines.specs.declared.decoding.Refused.TheVariants as refused
use Rattle.jl_lines.specs.declared.writing.Writing.{Writing}
use Rattle.jl_lines.specs.Counts.{is_statement, is_namespace, with_counted}
use Rattle.jl_lines.specs.Writings.{written}
use Rattle.jl_lines.specs.Going.{Outcome, Halts, outcome, outcome_of}

counted-append : (p : Item → Bool) (n : ℕ) (xs ys : List Item) → n + length (filter p (xs ++ ys)) ≡ n + length (filter p xs) + length (filter p ys)
counted-append p n xs ys = omega (arith, ap length (filter-append p xs ys), length-append (filter p xs) (filter p ys))

-- the counts of two lists of items
pub with_counted-append : (counts : Counts) (xs ys : List Item) → with_counted counts (xs ++ ys) ≡ with_counted (with_counted counts xs) ys
with_counted-append counts xs ys =
    let s = counted-append is_statement counts.statements xs ys in
    let n = counted-append is_namespace counts.namespaces xs ys in
    rw (s, n) refl

-- one row of a run
pub run_next : (o : StreamOptions) (s : State) (p : Placed) (R : Reading Placed Fault) → run_on o s (with_front p R) ≡ stepped p.place (step o p.row s) (λ t. run_on o t R)
unfolding run
run_next o s p R = refl

pub run_none : (o : StreamOptions) (s : State) (fault : Option Fault) → run_on o s (record { items = []; fault = fault }) ≡ record { items = []; fault = fault }
unfolding run
run_none o s fault = refl

-- no items more
pub counted_none : (counts : Counts) → with_counted counts [] ≡ counts
counted_none counts =
    let s : counts.statements + 0 ≡ counts.statements = omega arith in
    let n : counts.namespaces + 0 ≡ counts.namespaces = omega arith in
    rw (s, n) refl

-- the same lines, counts and fault
same_outcome : (l l' : List ℕ) (c c' : Counts) (f : Option Fault) → l ≡ l' → c ≡ c' → ◌≡◌ {A = Outcome} (record { lines = l; counts = c; fault = f }) (record { lines = l'; counts = c'; fault = f })
same_outcome l l' c c' f p q = ap (λ (x : List ℕ). record { lines = x; counts = c; fault = f }) p ∙ ap (λ (x : Counts). record { lines = l'; counts = x; fault = f }) q

-- some items, and then others
pub items_on : (writes : Item → List ℕ) (l l' : List ℕ) (c c' : Counts) (items : List Item) (next : Reading Item Fault) → l' ≡ l ++ flat_map writes items → c' ≡ with_counted c items
    → outcome_of writes l c (followed items None next) ≡ outcome_of writes l' c' next
items_on writes l l' c c' items next lines counts =
    same_outcome (l ++ flat_map writes (items ++ next.items)) (l' ++ flat_map writes next.items) (with_counted c (items ++ next.items)) (with_counted c' next.items) next.fault
    (ap (λ (t : List ℕ). l ++ t) (flat_map-append writes items next.items) ∙ sym (append_assoc l (flat_map writes items) (flat_map writes next.items)) ∙ sym (ap (λ (x : List ℕ). x ++ flat_map writes next.items) lines))
    (with_counted-append c items next.items ∙ ap (λ (x : Counts). with_counted x next.items) (sym counts))

module _ (bytes : List ℕ) (d d' : Decoding) (R : Reading Placed Fault) where
  abbrev opts : StreamOptions
  opts = options_seen bytes d.state.options

  abbrev here : State
  here = state_seen bytes d.state

  -- one row, with what is written of it on the page
  pub goes_row : (p : Placed) (R' : Reading Placed Fault) (items : List Item) → R ≡ with_front p R' → d'.state.options ≡ d.state.options → d'.writing ≡ d.writing
      → step opts p.row here ≡ Ok (state_seen bytes d'.state, items) → d'.page.lines ≡ d.page.lines ++ flat_map (written d.writing) items → d'.counts ≡ with_counted d.counts items
      → outcome bytes d R ≡ outcome bytes d' R'
  goes_row p R' items e options writing said lines counts =
      let s' = state_seen bytes d'.state in
      let next = run_on opts s' R' in
      let ran : run_on opts here R ≡ followed items None next = ap (run_on opts here) e ∙ run_next opts here p R' ∙ ap (λ (x : Stepped). stepped p.place x (λ t. run_on opts t R')) said in
      ap (outcome_of (written d.writing) d.page.lines d.counts) ran
      ∙ items_on (written d.writing) d.page.lines d'.page.lines d.counts d'.counts items next lines counts
      ∙ ap (λ (w : Writing). outcome_of (written w) d'.page.lines d'.counts next) (sym writing)
      ∙ ap (λ (o : Options). outcome_of (written d'.writing) d'.page.lines d'.counts (run_on (options_seen bytes o) s' R')) (sym options)

  halts : (fault : Fault) → run_on opts here R ≡ record { items = []; fault = Some fault } → d'.page.lines ≡ d.page.lines → d'.counts ≡ d.counts → Halts (outcome bytes d R) d' (refused.Malformed fault)
  halts fault ran same counts = (
    ap (λ (r : Reading Item Fault). r.fault) ran,
    ap (λ (r : Reading Item Fault). d.page.lines ++ flat_map (written d.writing) r.items) ran ∙ append-nil d.page.lines ∙ sym same,
    ap (λ (r : Reading Item Fault). with_counted d.counts r.items) ran ∙ counted_none d.counts ∙ sym counts,
  )

  -- a row has a fault
  pub halts_row : (p : Placed) (R' : Reading Placed Fault) (k : Kind) → R ≡ with_front p R' → step opts p.row here ≡ Err k → d'.page.lines ≡ d.page.lines → d'.counts ≡ d.counts
      → Halts (outcome bytes d R) d' (refused.Malformed (record { place = p.place; kind = k }))
  halts_row p R' k e said same counts =
      halts (record { place = p.place; kind = k }) (ap (run_on opts here) e ∙ run_next opts here p R' ∙ ap (λ (x : Stepped). stepped p.place x (λ t. run_on opts t R')) said) same counts

  -- the rows end in a fault
  pub halts_read : (fault : Fault) → R ≡ record { items = []; fault = Some fault } → d'.page.lines ≡ d.page.lines → d'.counts ≡ d.counts → Halts (outcome bytes d R) d' (refused.Malformed fault)
  halts_read fault e same counts = halts fault (ap (run_on opts here) e ∙ run_none opts here (Some fault)) same counts

-- one way, and then no further
pub halts_then : (said said' : Outcome) (d : Decoding) (why : Refused) → said ≡ said' → Halts said' d why → Halts said d why
halts_then said said' d why e h = subst (λ (x : Outcome). Halts x d why) (sym e) h
