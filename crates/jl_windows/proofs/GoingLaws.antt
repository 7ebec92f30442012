-- The decoding of one window after another.
use Rattle.std.proofs.Common.{◌≡◌, ℕ, ◌+◌, ◌-◌, ◌≤◌, Bool, true, false, List, [], ◌∷◌, ◌++◌, length, map, take, slice_range, Option, Some, None, Result, Ok, Err, OnOk, refl, sym, ◌∙◌, ap, subst, arith, append-nil}
use Rattle.std.proofs.lemmas.List.{take_all}
use Rattle.jl_base.specs.Results.{Reading}
use Rattle.jl_base.specs.Sinks.{Adds}
use Rattle.jl_base.specs.Sources.{Told}
use Rattle.jl_base.specs.Spans.{text_of}
use Rattle.jl_base.specs.declared.place.Fault.{Fault}
use Rattle.jl_base.specs.declared.place.Span.{Span}
use Rattle.jl_rows.specs.Files.{Placed, rows_then}
use Rattle.jl_rows.specs.Seen.{options_seen}
use Rattle.jl_rows.specs.Written.{StreamOptions}
use Rattle.jl_rows.specs.declared.options.Options.{Options}
use Rattle.jl_frames.specs.Feeding.{Feeding}
use Rattle.jl_frames.specs.Index.{Index, behind, bytes_of, last_end}
use Rattle.jl_frames.specs.Stretches.{between}
use Rattle.jl_frames.specs.declared.feed.Window.{Window}
use Rattle.jl_frames.proofs.Stretches.{then_append}
use Rattle.jl_state.specs.Carries.{MeansTheSame}
use Rattle.jl_state.specs.Lawful.{maybe_value, state_seen}
use Rattle.jl_state.specs.Running.{run_on}
use Rattle.jl_state.specs.States.{State, opening}
use Rattle.jl_lines.specs.Counts.{none_counted}
use Rattle.jl_lines.specs.Giving.{Breaks, Outlet, Passes}
use Rattle.jl_lines.specs.Going.{Outcome, all_of, outcome, outcome_of}
use Rattle.jl_lines.specs.Kept.{Keeps}
use Rattle.jl_lines.specs.Pages.{IsStill, Paged}
use Rattle.jl_lines.specs.Writings.{written}
use Rattle.jl_lines.specs.declared.decoding.Counts.{Counts}
use Rattle.jl_lines.specs.declared.decoding.Decoding.{Decoding}
use Rattle.jl_lines.specs.declared.giving.Broken.{Broken}
use Rattle.jl_lines.specs.declared.giving.Broken.TheVariants as broken
use Rattle.jl_lines.specs.declared.writing.Writing.{Writing}
use Rattle.jl_lines.proofs.GivingLemmas.{passes_breaks, passes_none, passes_on, passes_then}
use Rattle.jl_windows.specs.Sources.{AtWindow, Unread, bodies_in, file_of, no_rows}
use Rattle.jl_windows.specs.Steps.{Before, Begins, Going, broken_off}
use Rattle.jl_windows.specs.Streams.{DecodesSource, OfWindows, comes_of, comes_to}
use Rattle.jl_windows.specs.Whole.{AreAllWhole, bodies_of}
use Rattle.jl_windows.specs.declared.stopped.Stopped.{Stopped}
use Rattle.jl_windows.specs.declared.stopped.Stopped.TheVariants as stopped
use Rattle.jl_windows.proofs.Openings.{file_stated, opening_comes, outcome_none, stated_first}
use Rattle.jl_windows.proofs.ReadingLaws.{bodies_then}

-- a state that means the same over other bytes
module _ (from bytes : List ℕ) (d d' : Decoding) (same : MeansTheSame from d.state bytes d'.state) where
  pub outcome_same : (R : Reading Placed Fault) → d'.page ≡ d.page → d'.counts ≡ d.counts → d'.writing ≡ d.writing → outcome from d R ≡ outcome bytes d' R
  outcome_same R page counts writing =
      let said = run_on (options_seen bytes d'.state.options) (state_seen bytes d'.state) R in
      ap (λ (o : StreamOptions). outcome_of (written d.writing) d.page.lines d.counts (run_on o (state_seen from d.state) R)) (sym same.options)
      ∙ ap (λ (s : State). outcome_of (written d.writing) d.page.lines d.counts (run_on (options_seen bytes d'.state.options) s R)) (sym same.seen)
      ∙ ap (λ (p : Paged). outcome_of (written d.writing) p.lines d.counts said) (sym page)
      ∙ ap (λ (c : Counts). outcome_of (written d.writing) d'.page.lines c said) (sym counts)
      ∙ ap (λ (x : Writing). outcome_of (written x) d'.page.lines d'.counts said) (sym writing)

  pub keeps_same : d'.page ≡ d.page → Keeps from d → Keeps bytes d'
  keeps_same page kept =
      let subject : maybe_value from d.state.subject ≡ maybe_value bytes d'.state.subject = sym (ap (λ (s : State). s.subject) same.seen) in
      let predicate : maybe_value from d.state.predicate ≡ maybe_value bytes d'.state.predicate = sym (ap (λ (s : State). s.predicate) same.seen) in
      let object : maybe_value from d.state.object ≡ maybe_value bytes d'.state.object = sym (ap (λ (s : State). s.object) same.seen) in
      record {
        lawful = same.lawful;
        subject = subst (λ (p : Paged). IsStill p.subject (maybe_value bytes d'.state.subject)) (sym page) (subst (IsStill d.page.subject) subject kept.subject);
        predicate = subst (λ (p : Paged). IsStill p.predicate (maybe_value bytes d'.state.predicate)) (sym page) (subst (IsStill d.page.predicate) predicate kept.predicate);
        object = subst (λ (p : Paged). IsStill p.object (maybe_value bytes d'.state.object)) (sym page) (subst (IsStill d.page.object) object kept.object);
      }

-- all frames of a window
pub whole_window : (bytes : List ℕ) (w : Window) (B : Reading Placed Fault) → between bytes w.frames 0 (length w.frames.bodies) B ≡ rows_then w.frames.first (bodies_in bytes w) B
whole_window bytes w B =
    let all : slice_range w.frames.bodies 0 (length w.frames.bodies) ≡ w.frames.bodies = take_all (length w.frames.bodies - 0) w.frames.bodies (omega arith) in
    let one : w.frames.first + 0 ≡ w.frames.first = omega arith in
    ap (λ (xs : List Span). rows_then (w.frames.first + 0) (map (text_of bytes) xs) B) all
    ∙ ap (λ (n : ℕ). rows_then n (bodies_in bytes w) B) one

-- how many items a window may have
pub window_few : (index : Index) (old new n : ℕ) → n ≡ length index.bodies → new + behind index 0 ≤ old + behind index n → new ≤ old + bytes_of index
window_few index old new n count few =
    let all : behind index n ≡ last_end index.lo index.bodies = ap (last_end index.lo) (take_all n index.bodies (omega (arith, count))) in
    omega (arith, few, all)

-- what holds of an answer
pub ok_then : {T E : Type 0} (P Q : Type 0) (r : Result T E) → OnOk r P → (P → Q) → OnOk r Q
ok_then P Q (Ok x) p f = f p
ok_then P Q (Err e) p f = p

-- before a window that was read
module _ (writing : Writing) (strict : Bool) (before told told' : Told) (limit left left' size : ℕ) (feed feed' : Feeding) (old bytes : List ℕ) (w : Window) (d d' : Decoding) (k k' : Outlet) where
  pub before_window : (g : Going writing strict before told limit left size feed old d k k') → AtWindow before told' limit left' size feed' g.windows bytes w → MeansTheSame old d.state bytes d'.state → d'.page ≡ d.page → d'.counts ≡ d.counts → d'.writing ≡ d.writing
      → Before writing strict before told' limit left' size feed' bytes w d' k k'
  before_window g at same page counts is = record {
    windows = g.windows;
    at = at;
    went = λ B. (
        let R = rows_then w.frames.first (bodies_in bytes w) B in
        let rows = then_append 1 w.frames.first (bodies_of g.windows) (bodies_in bytes w) B at.first in
        let went = passes_on (comes_of writing strict (rows_then 1 (bodies_of g.windows) R)) (outcome old d R) k k' (g.went R) (outcome bytes d' R) (outcome_same old bytes d d' same R page counts is) in
        subst (λ (x : Reading Placed Fault). Passes (comes_of writing strict x) k k' (outcome bytes d' R)) (sym rows) went);
  }

-- before the window that has the first row
pub before_first : (writing : Writing) (strict : Bool) (before told : Told) (limit left size : ℕ) (feed : Feeding) (bytes : List ℕ) (w : Window) (options : Options) (d : Decoding) (k : Outlet) → Begins strict before told limit left size feed bytes w options
    → d.state.options ≡ options → state_seen bytes d.state ≡ opening (options_seen bytes options) → d.page.lines ≡ [] → d.counts ≡ none_counted → d.writing ≡ writing
    → Before writing strict before told limit left size feed bytes w d k k
before_first writing strict before told limit left size feed bytes w options d k b same exact empty counts is = record {
  windows = b.windows;
  at = b.at;
  went = λ B. (
      let R = rows_then w.frames.first (bodies_in bytes w) B in
      let rows = then_append 1 w.frames.first (bodies_of b.windows) (bodies_in bytes w) B b.at.first ∙ b.none R in
      let said = stated_first strict R (options_seen bytes options) b.place (b.head B) in
      passes_none (comes_of writing strict (rows_then 1 (bodies_of b.windows ++ bodies_in bytes w) B)) (outcome bytes d R) k
      (ap (comes_of writing strict) rows ∙ ap (all_of (written writing)) said ∙ sym (opening_comes bytes d options writing R same exact empty counts is)));
}

module _ (writing : Writing) (strict : Bool) (before told : Told) (limit left size : ℕ) (feed : Feeding) (bytes : List ℕ) (w : Window) (d d' : Decoding) (k k' k'' : Outlet) (b : Before writing strict before told limit left size feed bytes w d k k') where
  abbrev here : List (List ℕ)
  here = bodies_in bytes w

  abbrev rows_with : Reading Placed Fault → Reading Placed Fault
  rows_with B = rows_then 1 (bodies_of b.windows ++ here) B

  abbrev frames_with : Reading Placed Fault → Reading Placed Fault
  frames_with B = between bytes w.frames 0 (length w.frames.bodies) B

  abbrev file : List ℕ
  file = file_of b.at.read told

  said : comes_to writing strict file ≡ comes_of writing strict (rows_with b.at.rest)
  said = file_stated writing strict file (rows_with b.at.rest) b.at.rows

  -- the window was decoded
  module _ (passes : (B : Reading Placed Fault) → Passes (outcome bytes d (frames_with B)) k' k'' (outcome bytes d' B)) (empty : d'.page.lines ≡ []) where
    came : (B : Reading Placed Fault) → Passes (comes_of writing strict (rows_with B)) k k'' (outcome bytes d' B)
    came B =
        let R = rows_then w.frames.first here B in
        passes_then (comes_of writing strict (rows_with B)) (outcome bytes d R) k k' (b.went B) (outcome bytes d' B) k''
        (subst (λ (x : Reading Placed Fault). Passes (outcome bytes d x) k' k'' (outcome bytes d' B)) (whole_window bytes w B) (passes B))

    pub going_next : w.last ≡ false → Going writing strict before told limit left size feed bytes d' k k''
    going_next e = record {
      windows = b.windows ++ here ∷ [];
      source = b.at.next e;
      went = λ B. subst (λ (xs : List (List ℕ)). Passes (comes_of writing strict (rows_then 1 xs B)) k k'' (outcome bytes d' B)) (sym (bodies_then b.windows here)) (came B);
      empty = empty;
    }

    -- what the file comes to in the end
    at_end : w.last ≡ true → (fault : Option Fault) → w.frames.tail ≡ fault → Passes (comes_to writing strict file) k k'' (record { lines = []; counts = d'.counts; fault = fault })
    at_end e fault is =
        let tail = (b.at.last e).tail in
        let all = subst (λ (x : Outcome). Passes x k k'' (outcome bytes d' b.at.rest)) (sym said) (came b.at.rest) in
        passes_on (comes_to writing strict file) (outcome bytes d' b.at.rest) k k'' all (record { lines = []; counts = d'.counts; fault = fault })
        (ap (outcome bytes d') tail ∙ outcome_none bytes d' w.frames.tail empty ∙ ap (λ (f : Option Fault). record { lines = []; counts = d'.counts; fault = f }) is)

    pub decoded : w.last ≡ true → w.frames.tail ≡ None → DecodesSource writing strict before told limit left size k k'' (Ok (record { frames = feed.given; counts = d'.counts }))
    decoded e is =
        let all = at_end e None is in
        record {
          read = b.at.read;
          reads = b.at.reads;
          given = all.given;
          rest = [];
          lines = all.lines;
          adds = all.adds;
          cause = record {
            fault = all.fault;
            all = refl;
            counts = all.counts;
            frames = (b.at.last e).given;
            ends = (b.at.last e).ends is;
            counted = b.at.counted;
            steady = (b.at.steady, all.steady);
          };
        }

    pub tail_malformed : w.last ≡ true → (fault : Fault) → w.frames.tail ≡ Some fault → DecodesSource writing strict before told limit left size k k'' (Err (stopped.Malformed fault))
    tail_malformed e fault is =
        let all = at_end e (Some fault) is in
        record {
          read = b.at.read;
          reads = b.at.reads;
          given = all.given;
          rest = [];
          lines = all.lines;
          adds = all.adds;
          cause = record { fault = all.fault; all = refl; counted = b.at.counted; steady = (b.at.steady, all.steady) };
        }

  -- it was broken off
  module _ (why : Broken) (breaks : (B : Reading Placed Fault) → Breaks (outcome bytes d (frames_with B)) k' k'' why) where
    broke : Breaks (comes_to writing strict file) k k'' why
    broke =
        let B = b.at.rest in
        let R = rows_then w.frames.first here B in
        subst (λ (x : Outcome). Breaks x k k'' why) (sym said)
        (passes_breaks (comes_of writing strict (rows_with B)) (outcome bytes d R) k k' (b.went B) k'' why
        (subst (λ (x : Reading Placed Fault). Breaks (outcome bytes d x) k' k'' why) (whole_window bytes w B) (breaks B)))

  breaks_off : (why : Broken) → Breaks (comes_to writing strict file) k k'' why → DecodesSource writing strict before told limit left size k k'' (Err (broken_off why))
  breaks_off (broken.Malformed fault) x = record {
    read = b.at.read;
    reads = b.at.reads;
    given = x.given;
    rest = x.left;
    lines = x.lines;
    adds = x.adds;
    cause = record { fault = x.cause.0; all = x.cause.1; counted = b.at.counted; steady = (b.at.steady, x.cause.2) };
  }
  breaks_off broken.WriteFault x = record {
    read = b.at.read;
    reads = b.at.reads;
    given = x.given;
    rest = x.left;
    lines = x.lines;
    adds = x.adds;
    cause = (x.cause, b.at.counted, b.at.steady);
  }
  breaks_off broken.NoMemory x = record {
    read = b.at.read;
    reads = b.at.reads;
    given = x.given;
    rest = x.left;
    lines = x.lines;
    adds = x.adds;
    cause = (b.at.counted, b.at.steady, x.cause);
  }

  pub broke_off : (why : Broken) → ((B : Reading Placed Fault) → Breaks (outcome bytes d (frames_with B)) k' k'' why) → DecodesSource writing strict before told limit left size k k'' (Err (broken_off why))
  broke_off why breaks = breaks_off why (broke why breaks)

-- no further window was had
module _ (writing : Writing) (strict : Bool) (before told told' : Told) (limit left left' size : ℕ) (feed : Feeding) (bytes : List ℕ) (d : Decoding) (k k' : Outlet) (g : Going writing strict before told limit left size feed bytes d k k') where
  of_windows : (some : List ℕ) → AreAllWhole size some g.windows → OfWindows writing strict size some k k'
  of_windows some all =
      let went = g.went no_rows in
      let none = outcome_none bytes d None g.empty in
      let lines : (comes_of writing strict (rows_then 1 (bodies_of g.windows) no_rows)).lines ≡ went.given =
      went.lines ∙ ap (λ (x : Outcome). went.given ++ x.lines) none ∙ append-nil went.given in
      record {
        windows = g.windows;
        all = all;
        adds = subst (λ (x : List ℕ). Adds k.held k'.held x) (sym lines) went.adds;
        fault = went.fault ∙ ap (λ (x : Outcome). x.fault) none;
      }

  module _ (why : Stopped) (u : Unread before told' limit left' size g.windows why) where
    left_over : Passes (comes_to writing strict (file_of u.read told')) k k' (outcome bytes d u.rest)
    left_over = subst (λ (x : Outcome). Passes x k k' (outcome bytes d u.rest)) (sym (file_stated writing strict (file_of u.read told') (rows_then 1 (bodies_of g.windows) u.rest) u.rows)) (g.went u.rest)

  pub unread_after : (why : Stopped) → Unread before told' limit left' size g.windows why → DecodesSource writing strict before told' limit left' size k k' (Err why)
  unread_after (stopped.Malformed fault) u = absurd u.cause
  unread_after stopped.ReadFault u =
      let x = left_over stopped.ReadFault u in
      record {
        read = u.read;
        reads = u.reads;
        given = x.given;
        rest = (outcome bytes d u.rest).lines;
        lines = x.lines;
        adds = x.adds;
        cause = (u.cause.0, x.steady, u.cause.1, of_windows u.read u.cause.2);
      }
  unread_after stopped.TooLong u =
      let x = left_over stopped.TooLong u in
      record {
        read = u.read;
        reads = u.reads;
        given = x.given;
        rest = (outcome bytes d u.rest).lines;
        lines = x.lines;
        adds = x.adds;
        cause = (u.cause.0, u.cause.1, u.cause.2, x.steady, of_windows (take limit u.read) u.cause.3);
      }
  unread_after stopped.WriteFault u = absurd u.cause
  unread_after stopped.NoMemory u =
      let x = left_over stopped.NoMemory u in
      record {
        read = u.read;
        reads = u.reads;
        given = x.given;
        rest = (outcome bytes d u.rest).lines;
        lines = x.lines;
        adds = x.adds;
        cause = (u.cause.0, u.cause.1, x.steady);
      }
