-- What a decoding comes to, and how one row, and the rows after it, bring it on. What is written of an item is the writing's
-- to say, and what becomes of the page is nothing to rows.
use Rattle.std.specs.Prelude.{◌≡◌, ℕ, ◌+◌, List, [], ◌++◌, Option, Some, None, Result, Ok, Err}
use Rattle.std.specs.List.{flat_map}
use Rattle.jl_base.specs.Results.{Reading}
use Rattle.jl_base.specs.Terms.{Item}
use Rattle.jl_base.specs.declared.place.Fault.{Fault}
use Rattle.jl_rows.specs.Files.{Placed}
use Rattle.jl_rows.specs.Seen.{options_seen}
use Rattle.jl_state.specs.declared.stop.Stop.{Stop}
use Rattle.jl_state.specs.declared.stop.Stop.TheVariants as stops
use Rattle.jl_state.specs.Steps.{Stepped}
use Rattle.jl_state.specs.Lawful.{state_seen}
use Rattle.jl_state.specs.Running.{run_on}
use Rattle.jl_lines.specs.Counts.{none_counted, with_counted}
use Rattle.jl_lines.specs.Writings.{written}
use Rattle.jl_lines.specs.declared.decoding.Counts.{Counts}
use Rattle.jl_lines.specs.declared.decoding.Decoding.{Decoding}
use Rattle.jl_lines.specs.declared.decoding.Refused.{Refused}
use Rattle.jl_lines.specs.declared.decoding.Refused.TheVariants as refused

-- What a decoding comes to: all that is on its page or will be written of the items to come; how many items there will be,
-- with those before; and the fault that ends them.
pub record Outcome : Type 0 where
  pub lines : List ℕ
  pub counts : Counts
  pub fault : Option Fault

-- what some items come to, after these lines and counts
abbrev pub outcome_of : (Item → List ℕ) → List ℕ → Counts → Reading Item Fault → Outcome
outcome_of writes lines counts said = record { lines = lines ++ flat_map writes said.items; counts = with_counted counts said.items; fault = said.fault }

-- what a decoding comes to where these rows are left
abbrev pub outcome : List ℕ → Decoding → Reading Placed Fault → Outcome
outcome bytes d R = outcome_of (written d.writing) d.page.lines d.counts (run_on (options_seen bytes d.state.options) (state_seen bytes d.state) R)

-- what a whole file comes to
abbrev pub all_of : (Item → List ℕ) → Reading Item Fault → Outcome
all_of writes said = outcome_of writes [] none_counted said

-- nothing is left, and so many items were counted
abbrev pub at_end : Counts → Outcome
at_end counts = record { lines = []; counts = counts; fault = None }

-- how many items were counted
abbrev pub counted : Decoding → ℕ
counted d = d.counts.statements + d.counts.namespaces

-- One row: its step, and what is written of it after the lines before; or its fault, and all as it was. Want of memory is
-- free.
abbrev pub TakesRow : List ℕ → Stepped → Decoding → Decoding → Result (Unit {0}) Stop → Type 0
TakesRow bytes said before after (Ok _) = (items : List Item) × (said ≡ Ok (state_seen bytes after.state, items))
    × (after.page.lines ≡ before.page.lines ++ flat_map (written before.writing) items) × (after.counts ≡ with_counted before.counts items)
TakesRow bytes said before after (Err (stops.Fault kind)) = (said ≡ Err kind) × (after.page.lines ≡ before.page.lines) × (after.counts ≡ before.counts)
TakesRow bytes said before after (Err stops.NoMemory) = Unit {0}

-- no further: at a fault, with all that is written before it on the page, and counted; or memory wasn't found
abbrev pub Halts : Outcome → Decoding → Refused → Type 0
Halts said d (refused.Malformed fault) = (said.fault ≡ Some fault) × (said.lines ≡ d.page.lines) × (said.counts ≡ d.counts)
Halts said d refused.NoMemory = Unit {0}

-- What a decoding comes to is what it came to before: where it stopped on the way, or at the end; or it went no further.
abbrev pub Comes : {A : Type 0} → Outcome → (A → Outcome) → Outcome → Decoding → Result (Option A) Refused → Type 0
Comes said on end d (Ok (Some x)) = said ≡ on x
Comes said on end d (Ok None) = said ≡ end
Comes said on end d (Err why) = Halts said d why
