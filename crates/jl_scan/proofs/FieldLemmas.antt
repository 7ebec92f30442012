-- Rows of runs, one after another, and what they do to a state.
use Rattle.std.proofs.Common.{◌≡◌, ℕ, zero, suc, ◌+◌, ◌*◌, ◌<◌, ◌≤◌, ◌^◌, List, [], ◌∷◌, length, slice_get, Option, Some, None, Result, Ok, Err, refl, ap, sym, subst, ◌∙◌, arith}
use Rattle.jl_base.specs.Limits.{most_bytes}
use Rattle.jl_base.specs.Results.{◌>>=◌, Reading, followed, joined}
use Rattle.jl_base.specs.declared.place.Fault.{Fault}
use Rattle.jl_base.specs.declared.place.Run.{Run}
use Rattle.jl_rows.specs.Written.{StreamOptions}
use Rattle.jl_rows.specs.Files.{Placed}
use Rattle.jl_frames.specs.Index.{Index, behind}
use Rattle.jl_frames.specs.Runs.{Cover, frames_before}
use Rattle.jl_frames.specs.Stretches.{between}
use Rattle.jl_frames.proofs.RunLemmas.{run_in_cover}
use Rattle.jl_frames.proofs.Stretches.{between_none, laid_count, laid_last}
use Rattle.jl_state.specs.Running.{at_place, state_of, after_rows, after_reading}
use Rattle.jl_state.specs.States.{State}
use Rattle.jl_state.specs.Steps.{step}
use Rattle.jl_sym.proofs.SumLemmas.{after_both}
use Rattle.jl_sym.specs.declared.summary.Summary.{Summary}
use Rattle.jl_tape.proofs.Stretches.{between_joined}
use Rattle.jl_tape.specs.Runs.{no_rows, run_begin, run_end, run_rows}
use Rattle.jl_tape.specs.Tapes.{HasRows, reading_of}
use Rattle.jl_tape.specs.declared.tape.PlacedRow.{PlacedRow}
use Rattle.jl_compose.specs.Blocks.{all_rows, seen_all, AreLawful, IsBounded}
use Rattle.jl_compose.specs.Laws.{BothSum, SumsSettled}
use Rattle.jl_compose.specs.Turns.{seen_act, ActsAlike, ActsInTurn, KeepsSettled}
use Rattle.jl_scan.specs.declared.file.File.{File}
use Rattle.jl_scan.specs.Costs.{through}
use Rattle.jl_scan.specs.Fields.{Field, HoldsRun, IsField, Sums, before, place, frames_of, rows, after}
use Rattle.jl_scan.specs.Files.{IsFile, field_of}

-- nothing comes after a fault
at_fault : (r : Result State Fault) (f : State → Result State Fault) (g : State → Result State Fault) → ((t : State) → (f t >>= g) ≡ f t) → ((r >>= f) >>= g) ≡ (r >>= f)
at_fault (Ok t) f g go = go t
at_fault (Err e) f g go = refl

after_stays : (o : StreamOptions) (s : State) (xs : List Placed) (e : Fault) (g : State → Result State Fault) → (after_rows o s xs (Some e) >>= g) ≡ after_rows o s xs (Some e)
unfolding after_rows
after_stays o s [] e g = refl
after_stays o s (r ∷ rs) e g = at_fault (at_place r.place (state_of (step o r.row s))) (λ t. after_rows o t rs (Some e)) g (λ t. after_stays o t rs e g)

after_followed : (o : StreamOptions) (s : State) (xs : List Placed) (fault : Option Fault) (Q : Reading Placed Fault) → after_reading o s (followed xs fault Q) ≡ (after_rows o s xs fault >>= λ t. after_reading o t Q)
after_followed o s xs None Q = after_both o s xs Q.items Q.fault
after_followed o s xs (Some e) Q = sym (after_stays o s xs e (λ t. after_reading o t Q))

pub after_joined : (o : StreamOptions) (s : State) (R Q : Reading Placed Fault) → after_reading o s (joined R Q) ≡ (after_reading o s R >>= λ t. after_reading o t Q)
after_joined o s R Q = after_followed o s R.items R.fault Q

pub field_is : (file : File) (lo : ℕ) → IsFile file → IsField (field_of file lo)
field_is file lo is = record { cover = is.cover; laid = is.laid; short = is.short }

frames_rise : (runs : List Run) (i j : ℕ) → i ≤ j → frames_before runs i ≤ frames_before runs j
frames_rise runs zero j le = let none : frames_before runs 0 ≡ 0 = refl in omega (arith, none)
frames_rise runs (suc i) zero le = absurd (omega arith)
frames_rise [] (suc i) (suc j) le = omega arith
frames_rise (r ∷ runs) (suc i) (suc j) le = omega (arith, frames_rise runs i j (omega arith))

-- the frames of the first runs, counted run by run
pub through_is : (w : Field) (b : ℕ) → through (frames_of w) b + before w 0 ≡ before w b
through_is w zero = omega arith
through_is w (suc b) =
    let rise = frames_rise w.runs (w.lo + b) (w.lo + (b + 1)) (omega arith) in
    let next : before w (suc b) ≡ before w (b + 1) = (let e : suc b ≡ b + 1 = omega arith in ap (before w) e) in
    omega (arith, through_is w b, rise, next)

module _ (w : Field) (is : IsField w) where
  frames_within : (runs : List Run) (index : Index) (k n i : ℕ) → Cover index k runs n → k + frames_before runs i ≤ n
  frames_within [] index k n zero all = omega (arith, all)
  frames_within [] index k n (suc i) all = omega (arith, all)
  frames_within (r ∷ runs) index k n zero all = omega (arith, frames_within runs index (k + r.frames) n zero all.2)
  frames_within (r ∷ runs) index k n (suc i) all = omega (arith, frames_within runs index (k + r.frames) n i all.2)

  pub before_within : (a : ℕ) → before w a ≤ length w.index.bodies
  before_within a = omega (arith, frames_within w.runs w.index 0 (length w.index.bodies) (w.lo + a) is.cover)

  pub before_rises : (a b : ℕ) → a ≤ b → before w a ≤ before w b
  before_rises a b le = frames_rise w.runs (w.lo + a) (w.lo + b) (omega arith)

  pub place_within : (a : ℕ) → place w a ≤ length w.bytes
  place_within a = let low = laid_last w.index.lo w.index.bodies is.laid.0 (before w a) is.laid.1 in let last = is.laid.2 in omega (arith, low, last)

  pub rows_joined : (a b c : ℕ) → a ≤ b → b ≤ c → rows w a c ≡ joined (rows w a b) (rows w b c)
  rows_joined a b c le le' = between_joined w.bytes w.index (before w a) (before w b) (before w c) no_rows (before_rises a b le) (before_rises b c le') (before_within c)

  pub after_runs : (a b c : ℕ) (s : State) → a ≤ b → b ≤ c → after w a c s ≡ (after w a b s >>= λ t. after w b c t)
  after_runs a b c s le le' = ap (after_reading w.options s) (rows_joined a b c le le') ∙ after_joined w.options s (rows w a b) (rows w b c)

  few_bodies : length w.index.bodies ≤ most_bytes
  few_bodies =
      let count = laid_count w.index.lo w.index.bodies is.laid.0 is.laid.1 in
      let last = is.laid.2 in
      let short = is.short in
      omega (arith, count, last, short)

  -- two blocks have few rows together
  pub few_rows : (a b c : ℕ) (ms ns : List Summary) → place w a + 2 * all_rows ms ≤ place w b → place w b + 2 * all_rows ns ≤ place w c → all_rows ms + all_rows ns < 2 ^ 32
  few_rows a b c ms ns few few' =
      let last = place_within c in
      let short = is.short in
      let small : most_bytes ≡ 1073741824 = refl in
      let big : 2 ^ 32 ≡ 4294967296 = refl in
      omega (arith, few, few', last, short, small, big)

  -- what a run of the field is
  pub record IsRunAt (a : ℕ) (run : Run) : Type 0 where
    pub begin : run_begin w.index run ≡ before w a
    pub next : before w (a + 1) ≡ before w a + run.frames
    pub end : run_end w.index run ≡ before w (a + 1)
    pub frames : run.frames ≡ frames_of w a
    pub rows_are : run_rows w.bytes w.index run ≡ rows w a (a + 1)

  pub run_at : (a : ℕ) (run : Run) → slice_get w.runs (w.lo + a) ≡ Some run → IsRunAt a run
  run_at a run e =
      let at = run_in_cover w.index 0 w.runs (length w.index.bodies) (w.lo + a) run is.cover e in
      let number : run.first_frame ≡ w.index.first + (0 + before w a) = ap (λ (r : Run). r.first_frame) at.begins in
      let begin : run_begin w.index run ≡ before w a = omega (arith, number) in
      let up : w.lo + (a + 1) ≡ w.lo + a + 1 = omega arith in
      let next : before w (a + 1) ≡ before w a + run.frames = ap (frames_before w.runs) up ∙ at.next in
      let end : run_end w.index run ≡ before w (a + 1) = omega (arith, begin, next) in
      record {
        begin = begin;
        next = next;
        end = end;
        frames = omega (arith, next);
        rows_are = ap (λ (i : ℕ). between w.bytes w.index i (run_end w.index run) no_rows) begin ∙ ap (λ (i : ℕ). between w.bytes w.index (before w a) i no_rows) end;
      }

  pub sums_run : (a : ℕ) (run : Run) (m : Summary) (ms : List Summary) → slice_get w.runs (w.lo + a) ≡ Some run → w.lo + a < length w.runs → SumsSettled w.options (run_rows w.bytes w.index run) (seen_act w.bytes m)
      → ActsAlike w.options (seen_all w.bytes ms) (seen_act w.bytes m) → AreLawful w.options w.bytes ms → IsBounded w.options ms → all_rows ms ≡ m.rows
      → behind w.index (run_begin w.index run) + 2 * m.rows ≤ behind w.index (run_end w.index run) → Sums w a (a + 1) ms
  sums_run a run m ms e below sums alike lawful bounded count few =
      let at = run_at a run e in
      let low : behind w.index (run_begin w.index run) ≡ place w a = ap (behind w.index) at.begin in
      let high : behind w.index (run_end w.index run) ≡ place w (a + 1) = ap (behind w.index) at.end in
      record {
        order = omega arith;
        within = omega (arith, below);
        acts = λ s settled. alike s settled ∙ (sums s settled ∙ ap (after_reading w.options s) at.rows_are);
        lawful = lawful;
        bounded = bounded;
        few = omega (arith, low, high, count, few);
      }

  -- a tape holds a run by what its reading promises
  pub holds_run : (a : ℕ) (run : Run) (tape : List PlacedRow) (fault : Option Fault) → slice_get w.runs (w.lo + a) ≡ Some run → HasRows w.bytes tape → reading_of w.bytes tape fault ≡ run_rows w.bytes w.index run
      → behind w.index (run_begin w.index run) + 2 * length tape ≤ behind w.index (run_end w.index run) → HoldsRun w a tape fault
  holds_run a run tape fault e has read few =
      let at = run_at a run e in
      let low : behind w.index (run_begin w.index run) ≡ place w a = ap (behind w.index) at.begin in
      let high : behind w.index (run_end w.index run) ≡ place w (a + 1) = ap (behind w.index) at.end in
      record { has = has; reads = read ∙ at.rows_are; few = omega (arith, low, high, few) }

  pub few_on_tape : (a : ℕ) (tape : List PlacedRow) (fault : Option Fault) → HoldsRun w a tape fault → length tape ≤ 2 ^ 30
  few_on_tape a tape fault holds =
      let few = holds.few in
      let last = place_within (a + 1) in
      let short = is.short in
      let small : most_bytes ≡ 1073741824 = refl in
      let big : 2 ^ 30 ≡ 1073741824 = refl in
      omega (arith, few, last, short, small, big)

  pub sums_tape : (a : ℕ) (tape : List PlacedRow) (fault : Option Fault) (m : Summary) (ms : List Summary) → HoldsRun w a tape fault → w.lo + a < length w.runs
      → SumsSettled w.options (reading_of w.bytes tape fault) (seen_act w.bytes m) → ActsAlike w.options (seen_all w.bytes ms) (seen_act w.bytes m) → AreLawful w.options w.bytes ms → IsBounded w.options ms
      → all_rows ms ≡ m.rows → m.rows ≤ length tape → Sums w a (a + 1) ms
  sums_tape a tape fault m ms holds below sums alike lawful bounded count rows =
      let few = holds.few in
      record {
        order = omega arith;
        within = omega (arith, below);
        acts = λ s settled. alike s settled ∙ (sums s settled ∙ ap (after_reading w.options s) holds.reads);
        lawful = lawful;
        bounded = bounded;
        few = omega (arith, few, count, rows);
      }

  pub sums_both : (a b c : ℕ) (ms ns ks : List Summary) → BothSum → KeepsSettled w.options (seen_all w.bytes ms) → Sums w a b ms → Sums w b c ns → ActsInTurn w.options (seen_all w.bytes ms) (seen_all w.bytes ns) (seen_all w.bytes ks)
      → AreLawful w.options w.bytes ks → IsBounded w.options ks → all_rows ks ≡ all_rows ms + all_rows ns → Sums w a c ks
  sums_both a b c ms ns ks law keeps left right turn lawful bounded count =
      let first = left.order in
      let second = right.order in
      let few = left.few in
      let few' = right.few in
      let whole = law w.options (rows w a b) (rows w b c) (seen_all w.bytes ms) (seen_all w.bytes ns) (seen_all w.bytes ks) keeps turn left.acts right.acts in
      record {
        order = omega (arith, first, second);
        within = right.within;
        acts = subst (λ (R : Reading Placed Fault). SumsSettled w.options R (seen_all w.bytes ks)) (sym (rows_joined a b c first second)) whole;
        lawful = lawful;
        bounded = bounded;
        few = omega (arith, count, few, few');
      }

  -- what runs make of a state goes on from run to run, and a first fault stays the first
  pub goes : (a b c : ℕ) (s t : State) (r : Result State Fault) → a ≤ b → b ≤ c → after w a b s ≡ Ok t → after w b c t ≡ r → after w a c s ≡ r
  goes a b c s t r le le' here on = after_runs a b c s le le' ∙ (ap (λ (x : Result State Fault). x >>= λ u. after w b c u) here ∙ on)

  pub stops : (a b c : ℕ) (s : State) (f : Fault) → a ≤ b → b ≤ c → after w a b s ≡ Err f → after w a c s ≡ Err f
  stops a b c s f le le' here = after_runs a b c s le le' ∙ ap (λ (x : Result State Fault). x >>= λ u. after w b c u) here

nothing_after : (o : StreamOptions) (s : State) → after_reading o s no_rows ≡ Ok s
unfolding after_rows
nothing_after o s = refl

pub starts : (w : Field) (a : ℕ) (s : State) → after w a a s ≡ Ok s
starts w a s = ap (after_reading w.options s) (between_none w.bytes w.index (before w a) (before w a) no_rows (omega arith)) ∙ nothing_after w.options s

pub through_few : (w : Field) (b : ℕ) → IsField w → through (frames_of w) b ≤ most_bytes
through_few w b is = let sum = through_is w b in let within = before_within w is b in let few = few_bodies w is in omega (arith, sum, within, few)
