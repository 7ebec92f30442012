-- What is on a page after a tape.
use Rattle.std.proofs.Common.{◌≡◌, ℕ, List, [], ◌++◌, Some, None, ap, sym, ◌∙◌, append-nil}
use Rattle.std.specs.List.{flat_map}
use Rattle.jl_base.specs.Results.{Reading, joined}
use Rattle.jl_base.specs.Terms.{Item}
use Rattle.jl_base.specs.declared.place.Fault.{Fault}
use Rattle.jl_rows.specs.Files.{Placed}
use Rattle.jl_rows.specs.Seen.{options_seen}
use Rattle.jl_state.specs.Lawful.{state_seen}
use Rattle.jl_state.specs.Running.{run_on}
use Rattle.jl_tape.specs.Runs.{no_rows}
use Rattle.jl_tape.proofs.TapeLemmas.{joined_nothing}
use Rattle.jl_lines.specs.Counts.{none_counted, with_counted}
use Rattle.jl_lines.specs.Going.{Outcome, Halts, outcome}
use Rattle.jl_lines.specs.Writings.{written}
use Rattle.jl_lines.specs.declared.decoding.Counts.{Counts}
use Rattle.jl_lines.specs.declared.decoding.Decoding.{Decoding}
use Rattle.jl_lines.specs.declared.decoding.Refused.TheVariants as refused
use Rattle.jl_lines.proofs.GoingLemmas.{counted_none, run_none}

module _ (bytes : List ℕ) (d d' : Decoding) (R : Reading Placed Fault) (empty : d.page.lines ≡ []) (none : d.counts ≡ none_counted) where
  abbrev said : Reading Item Fault
  said = run_on (options_seen bytes d.state.options) (state_seen bytes d.state) R

  same_rows : outcome bytes d (joined R no_rows) ≡ outcome bytes d R
  same_rows = ap (outcome bytes d) (joined_nothing R.items R.fault)

  lines_said : d.page.lines ++ flat_map (written d.writing) said.items ≡ flat_map (written d.writing) said.items
  lines_said = ap (λ (l : List ℕ). l ++ flat_map (written d.writing) said.items) empty

  counts_said : with_counted d.counts said.items ≡ with_counted none_counted said.items
  counts_said = ap (λ (c : Counts). with_counted c said.items) none

  -- the rows have no fault
  pub whole_lines : outcome bytes d (joined R no_rows) ≡ outcome bytes d' no_rows → d'.page.lines ≡ flat_map (written d.writing) said.items
  whole_lines comes =
      let ended = run_none (options_seen bytes d'.state.options) (state_seen bytes d'.state) None in
      sym (ap (λ (x : Reading Item Fault). d'.page.lines ++ flat_map (written d'.writing) x.items) ended ∙ append-nil d'.page.lines)
      ∙ sym (ap (λ (x : Outcome). x.lines) (sym same_rows ∙ comes)) ∙ lines_said

  pub whole_counts : outcome bytes d (joined R no_rows) ≡ outcome bytes d' no_rows → d'.counts ≡ with_counted none_counted said.items
  whole_counts comes =
      let ended = run_none (options_seen bytes d'.state.options) (state_seen bytes d'.state) None in
      sym (ap (λ (x : Reading Item Fault). with_counted d'.counts x.items) ended ∙ counted_none d'.counts)
      ∙ sym (ap (λ (x : Outcome). x.counts) (sym same_rows ∙ comes)) ∙ counts_said

  -- they have this one
  module _ (f : Fault) (halts : Halts (outcome bytes d (joined R no_rows)) d' (refused.Malformed f)) where
    pub halted_lines : d'.page.lines ≡ flat_map (written d.writing) said.items
    halted_lines = sym halts.1 ∙ ap (λ (x : Outcome). x.lines) same_rows ∙ lines_said

    pub halted_counts : d'.counts ≡ with_counted none_counted said.items
    halted_counts = sym halts.2 ∙ ap (λ (x : Outcome). x.counts) same_rows ∙ counts_said

    pub halted_fault : said.fault ≡ Some f
    halted_fault = sym (ap (λ (x : Outcome). x.fault) same_rows) ∙ halts.0
