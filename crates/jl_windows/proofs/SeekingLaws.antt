-- Windows without rows, and the first one that has a row.
use Rattle.std.proofs.Common.{◌≡◌, ℕ, ◌-◌, Bool, true, false, List, [], ◌∷◌, ◌++◌, length, take, slice_range, Option, Some, None, Result, Ok, Err, IfOk, refl, sym, ◌∙◌, ap, subst, arith}
use Rattle.std.proofs.lemmas.List.{take_all}
use Rattle.jl_base.specs.Results.{Reading}
use Rattle.jl_base.specs.Sinks.{Adds}
use Rattle.jl_base.specs.Sources.{Told}
use Rattle.jl_base.specs.Terms.{Item}
use Rattle.jl_base.specs.declared.kind.Kind.{Kind}
use Rattle.jl_base.specs.declared.place.Fault.{Fault}
use Rattle.jl_base.proofs.SinkLemmas.{Adds-nil}
use Rattle.jl_rows.specs.Decoder as decoder
use Rattle.jl_rows.specs.Files.{Placed, all_rows, frames, rows_then}
use Rattle.jl_rows.specs.Heads.{BeginsWith}
use Rattle.jl_rows.specs.declared.first_row.Head as code
use Rattle.jl_frames.specs.Feeding.{Feeding}
use Rattle.jl_frames.specs.declared.feed.Window.{Window}
use Rattle.jl_frames.proofs.Stretches.{then_append}
use Rattle.jl_lines.specs.Counts.{none_counted}
use Rattle.jl_lines.specs.Giving.{Outlet}
use Rattle.jl_lines.specs.Going.{Outcome, all_of}
use Rattle.jl_lines.specs.Writings.{written}
use Rattle.jl_lines.specs.declared.writing.Writing.{Writing}
use Rattle.jl_windows.specs.Found.{IsFound, OfRowless}
use Rattle.jl_windows.specs.declared.seek.Sought.{Sought}
use Rattle.jl_windows.specs.declared.seek.Sought.TheVariants as sought
use Rattle.jl_windows.specs.Sources.{AtWindow, Unread, bodies_in, file_of, no_rows}
use Rattle.jl_windows.specs.Steps.{HaveNoRows, Seeking, head_on}
use Rattle.jl_windows.specs.Streams.{DecodesSource, OfWindows, comes_of, comes_to}
use Rattle.jl_windows.specs.Whole.{AreAllWhole, bodies_of}
use Rattle.jl_windows.specs.declared.stopped.Stopped.{Stopped}
use Rattle.jl_windows.specs.declared.stopped.Stopped.TheVariants as stopped
use Rattle.jl_windows.specs.declared.stopped.Streamed.{Streamed}
use Rattle.jl_windows.proofs.Openings.{file_stated, stated_bad, stated_none}
use Rattle.jl_windows.proofs.ReadingLaws.{bodies_then}

-- what a window alone in its space begins with
pub begins_here : (bytes : List ℕ) (here : List (List ℕ)) (n end : ℕ) (h : code.Head) → end ≡ length bytes → frames bytes ≡ record { items = here; fault = None }
    → ((B : Reading Placed Fault) → BeginsWith bytes (rows_then n (frames (slice_range bytes 0 end)).items B) B h) → (B : Reading Placed Fault) → BeginsWith bytes (rows_then n here B) B h
begins_here bytes here n end h size alone begins B =
    let range : slice_range bytes 0 end ≡ bytes = take_all (end - 0) bytes (omega (arith, size)) in
    let items : (frames (slice_range bytes 0 end)).items ≡ here = ap (λ (x : List ℕ). (frames x).items) range ∙ ap (λ (R : Reading (List ℕ) Kind). R.items) alone in
    subst (λ (xs : List (List ℕ)). BeginsWith bytes (rows_then n xs B) B h) items (begins B)

pub faultless_here : (bytes : List ℕ) (here : List (List ℕ)) (end : ℕ) → end ≡ length bytes → frames bytes ≡ record { items = here; fault = None } → (frames (slice_range bytes 0 end)).fault ≡ None
faultless_here bytes here end size alone =
    let range : slice_range bytes 0 end ≡ bytes = take_all (end - 0) bytes (omega (arith, size)) in
    ap (λ (x : List ℕ). (frames x).fault) range ∙ ap (λ (R : Reading (List ℕ) Kind). R.fault) alone

-- what was found, where the window has no rows
pub found_rowless : (feed feed' : Feeding) (left left' : ℕ) (bytes : List ℕ) (last : Bool) (answer : Result Sought Stopped) → IfOk answer (OfRowless last) → (last ≡ false → IsFound feed feed' left left' bytes sought.Further) → IfOk answer (IsFound feed feed' left left' bytes)
found_rowless feed feed' left left' bytes last (Ok sought.Further) of f = f of
found_rowless feed feed' left left' bytes last (Ok sought.Ended) of f = of
found_rowless feed feed' left left' bytes last (Ok (sought.First w o)) of f = absurd of
found_rowless feed feed' left left' bytes last (Err why) of f = of

module _ (strict : Bool) (before told : Told) (limit left size : ℕ) (feed : Feeding) (windows : List (List (List ℕ))) (bytes : List ℕ) (w : Window) (at : AtWindow before told limit left size feed windows bytes w) (none : HaveNoRows 1 (bodies_of windows)) where
  abbrev here : List (List ℕ)
  here = bodies_in bytes w

  abbrev file : List ℕ
  file = file_of at.read told

  rows_at : all_rows file ≡ rows_then w.frames.first here at.rest
  rows_at = at.rows ∙ then_append 1 w.frames.first (bodies_of windows) here at.rest at.first ∙ none (rows_then w.frames.first here at.rest)

  malformed : (fault : Fault) → ((writing : Writing) → comes_to writing strict file ≡ all_of (written writing) (record { items = []; fault = Some fault })) → (writing : Writing) (k : Outlet)
      → DecodesSource writing strict before told limit left size k k (Err (stopped.Malformed fault))
  malformed fault said writing k = record {
    read = at.read;
    reads = at.reads;
    given = [];
    rest = [];
    lines = ap (λ (x : Outcome). x.lines) (said writing);
    adds = Adds-nil k.held;
    cause = record { fault = ap (λ (x : Outcome). x.fault) (said writing); all = refl; counted = at.counted; steady = (at.steady, refl) };
  }

  -- the window has no rows
  module _ (none' : HaveNoRows w.frames.first here) where
    pub further : w.last ≡ false → Seeking before told limit left size feed
    further e = record {
      windows = windows ++ here ∷ [];
      source = at.next e;
      none = λ B.
          ap (λ (xs : List (List ℕ)). rows_then 1 xs B) (bodies_then windows here)
          ∙ then_append 1 w.frames.first (bodies_of windows) here B at.first ∙ none (rows_then w.frames.first here B) ∙ none' B;
    }

    said_tail : w.last ≡ true → (fault : Option Fault) → w.frames.tail ≡ fault → (writing : Writing) → comes_to writing strict file ≡ all_of (written writing) (record { items = []; fault = fault })
    said_tail e fault is writing =
        file_stated writing strict file (record { items = []; fault = w.frames.tail }) (rows_at ∙ none' at.rest ∙ (at.last e).tail)
        ∙ ap (all_of (written writing)) (stated_none strict w.frames.tail)
        ∙ ap (λ (f : Option Fault). all_of (written writing) (record { items = []; fault = f })) is

    pub ended : w.last ≡ true → w.frames.tail ≡ None → (writing : Writing) (k : Outlet) → DecodesSource writing strict before told limit left size k k (Ok (record { frames = feed.given; counts = none_counted }))
    ended e is writing k =
        let said = said_tail e None is writing in
        record {
          read = at.read;
          reads = at.reads;
          given = [];
          rest = [];
          lines = ap (λ (x : Outcome). x.lines) said;
          adds = Adds-nil k.held;
          cause = record {
            fault = ap (λ (x : Outcome). x.fault) said;
            all = refl;
            counts = ap (λ (x : Outcome). x.counts) said;
            frames = (at.last e).given;
            ends = (at.last e).ends is;
            counted = at.counted;
            steady = (at.steady, refl);
          };
        }

    pub tail_fault : w.last ≡ true → (fault : Fault) → w.frames.tail ≡ Some fault → (writing : Writing) (k : Outlet) → DecodesSource writing strict before told limit left size k k (Err (stopped.Malformed fault))
    tail_fault e fault is = malformed fault (said_tail e (Some fault) is)

  -- its head is a fault
  pub bad : (fault : Fault) → ((B : Reading Placed Fault) → head_on strict (rows_then w.frames.first here B) ≡ decoder.Bad fault) → (writing : Writing) (k : Outlet) → DecodesSource writing strict before told limit left size k k (Err (stopped.Malformed fault))
  bad fault head =
      let R = rows_then w.frames.first here at.rest in
      malformed fault (λ writing. file_stated writing strict file R rows_at ∙ ap (all_of (written writing)) (stated_bad strict R fault (head at.rest)))

-- no window was had
module _ (strict : Bool) (before told : Told) (limit left size : ℕ) (windows : List (List (List ℕ))) (none : HaveNoRows 1 (bodies_of windows)) where
  of_none : (writing : Writing) (k : Outlet) (bytes : List ℕ) → AreAllWhole size bytes windows → OfWindows writing strict size bytes k k
  of_none writing k bytes all =
      let lines : (comes_of writing strict (rows_then 1 (bodies_of windows) no_rows)).lines ≡ [] =
      ap (λ (R : Reading Placed Fault). (comes_of writing strict R).lines) (none no_rows) ∙ ap (λ (r : Reading Item Fault). (all_of (written writing) r).lines) (stated_none strict None) in
      record {
        windows = windows;
        all = all;
        adds = subst (λ (x : List ℕ). Adds k.held k.held x) (sym lines) (Adds-nil k.held);
        fault = ap (λ (R : Reading Placed Fault). (comes_of writing strict R).fault) (none no_rows) ∙ ap (λ (r : Reading Item Fault). (all_of (written writing) r).fault) (stated_none strict None);
      }

  pub unread_none : (why : Stopped) → Unread before told limit left size windows why → (writing : Writing) (k : Outlet) → DecodesSource writing strict before told limit left size k k (Err why)
  unread_none (stopped.Malformed fault) u writing k = absurd u.cause
  unread_none stopped.ReadFault u writing k = record {
    read = u.read;
    reads = u.reads;
    given = [];
    rest = (comes_to writing strict (file_of u.read told)).lines;
    lines = refl;
    adds = Adds-nil k.held;
    cause = (u.cause.0, refl, u.cause.1, of_none writing k u.read u.cause.2);
  }
  unread_none stopped.TooLong u writing k = record {
    read = u.read;
    reads = u.reads;
    given = [];
    rest = (comes_to writing strict (file_of u.read told)).lines;
    lines = refl;
    adds = Adds-nil k.held;
    cause = (u.cause.0, u.cause.1, u.cause.2, refl, of_none writing k (take limit u.read) u.cause.3);
  }
  unread_none stopped.WriteFault u writing k = absurd u.cause
  unread_none stopped.NoMemory u writing k = record {
    read = u.read;
    reads = u.reads;
    given = [];
    rest = (comes_to writing strict (file_of u.read told)).lines;
    lines = refl;
    adds = Adds-nil k.held;
    cause = (u.cause.0, u.cause.1, refl);
  }

-- the sink is as it was
module _ (writing : Writing) (strict : Bool) (before told : Told) (limit left size : ℕ) (k k' : Outlet) (same : k' ≡ k) (answer : Result Streamed Stopped) where
  pub still : DecodesSource writing strict before told limit left size k k answer → DecodesSource writing strict before told limit left size k k' answer
  still x = subst (λ (y : Outlet). DecodesSource writing strict before told limit left size k y answer) (sym same) x

  pub still_before : (k'' : Outlet) → DecodesSource writing strict before told limit left size k' k'' answer → DecodesSource writing strict before told limit left size k k'' answer
  still_before k'' x = subst (λ (y : Outlet). DecodesSource writing strict before told limit left size y k'' answer) same x
