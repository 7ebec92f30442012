-- From one window of a source to the next, and to the end of the file.
use Rattle.std.proofs.Common.{◌≡◌, ℕ, suc, ◌+◌, ◌<◌, ◌≤◌, ◌⊎◌, ◌||◌, Bool, true, false, List, [], ◌∷◌, ◌++◌, length, take, drop, Option, Some, None, Ok, Err, refl, sym, ◌∙◌, ap, subst, arith, append_assoc, append-nil, length-append, take_at, drop_at, inl, inr}
use Rattle.std.proofs.lemmas.Bool.{le-ltb, lt-ltb}
use Rattle.std.proofs.lemmas.List.{length-map, take-append-le, take-append-drop}
use Rattle.std.specs.Io.KnownBytes.{IsAtEnd}
use Rattle.jl_base.specs.Causes.{Rose}
use Rattle.jl_base.specs.Limits.{most_bytes}
use Rattle.jl_base.specs.Results.{Reading, followed, joined}
use Rattle.jl_base.specs.Sources.{Told, Reads}
use Rattle.jl_base.specs.Spans.{text_of}
use Rattle.jl_base.specs.declared.kind.Kind.{Kind}
use Rattle.jl_base.specs.declared.place.Fault.{Fault}
use Rattle.jl_base.specs.declared.space.FillFault.{FillFault}
use Rattle.jl_base.specs.declared.space.FillFault.TheVariants as fills
use Rattle.jl_base.proofs.SourceLemmas.{Reads-none, Reads-append}
use Rattle.jl_rows.specs.Carries.{Grows}
use Rattle.jl_rows.specs.Files.{all_rows, ends_at, frame_rows, frames, rows_from, rows_on, rows_then}
use Rattle.jl_frames.specs.Feeding.{Feeding, Feeds, Fed, HasWindow, IsTakenIn}
use Rattle.jl_frames.specs.Following.{bytes_left}
use Rattle.jl_frames.specs.Index.{AreLaid}
use Rattle.jl_frames.specs.Windows.{after_window, is_lasting, is_short, kept_if, rest, wanted, window}
use Rattle.jl_frames.specs.declared.feed.Window.{Window}
use Rattle.jl_frames.proofs.FeedLemmas.{is_whole}
use Rattle.jl_frames.proofs.Fronts.{front}
use Rattle.jl_frames.proofs.Stretches.{then_append}
use Rattle.jl_frames.proofs.WindowLaws.{wanted_stays}
use Rattle.jl_windows.specs.Sources.{AtWindow, HasTaken, Streaming, Unread, bodies_in, file_of, unread}
use Rattle.jl_windows.specs.Whole.{AreAllWhole, AreWhole, bodies_of}
use Rattle.jl_windows.specs.declared.stopped.Stopped.TheVariants as stopped
use Rattle.jl_windows.proofs.Cutting.{cut}

-- one window more
pub bodies_then : (ws : List (List (List ℕ))) (w : List (List ℕ)) → bodies_of (ws ++ w ∷ []) ≡ bodies_of ws ++ w
bodies_then [] w = append-nil w
bodies_then (x ∷ ws) w = ap (λ (xs : List (List ℕ)). x ++ xs) (bodies_then ws w) ∙ sym (append_assoc x (bodies_of ws) w)

whole_then : (size : ℕ) (bytes : List ℕ) (ws : List (List (List ℕ))) (over : List ℕ) (w : List (List ℕ)) (over' : List ℕ) → AreWhole size bytes ws over → is_short size over ≡ false → w ≡ (frames (window size over)).items → after_window size over ≡ over'
    → AreWhole size bytes (ws ++ w ∷ []) over'
whole_then size bytes [] over w over' same short items after = (
  ap (is_short size) same ∙ short,
  items ∙ ap (λ (x : List ℕ). (frames (window size x)).items) (sym same),
  ap (after_window size) same ∙ after,
)
whole_then size bytes (x ∷ ws) over w over' all short items after = (all.0, all.1, whole_then size (after_window size bytes) ws over w over' all.2 short items after)

-- the rows of frames, of which the first ones are known
split_rows : (n m : ℕ) (xs ys : List (List ℕ)) (fault : Option Kind) → m ≡ n + length xs → rows_from n (xs ++ ys) fault ≡ rows_then n xs (rows_from m ys fault)
unfolding rows_from
split_rows n m [] ys fault e = let same : n ≡ m = omega (arith, e) in ap (λ (k : ℕ). rows_from k ys fault) same
split_rows n m (x ∷ xs) ys fault e =
    let next : m ≡ (n + 1) + length xs = omega (arith, e) in
    ap (joined (frame_rows n x)) (split_rows (n + 1) m xs ys fault next)

fault_alone : (m : ℕ) (fault : Option Kind) → rows_from m [] fault ≡ record { items = []; fault = ends_at m 0 fault }
unfolding rows_from
fault_alone m fault = refl

last_rows : (n m : ℕ) (xs : List (List ℕ)) (fault : Option Kind) → m ≡ n + length xs → rows_from n xs fault ≡ rows_then n xs (record { items = []; fault = ends_at m 0 fault })
last_rows n m xs fault e =
    ap (λ (zs : List (List ℕ)). rows_from n zs fault) (sym (append-nil xs)) ∙ split_rows n m xs [] fault e ∙ ap (rows_then n xs) (fault_alone m fault)

rows_followed : (file : List ℕ) (xs : List (List ℕ)) (R : Reading (List ℕ) Kind) → frames file ≡ followed xs None R → all_rows file ≡ rows_then 1 xs (rows_on (1 + length xs) R)
rows_followed file xs R e =
    ap (rows_on 1) e ∙ split_rows 1 (1 + length xs) xs R.items R.fault refl

followed_then : (xs ys : List (List ℕ)) (R : Reading (List ℕ) Kind) → followed xs None (followed ys None R) ≡ followed (xs ++ ys) None R
followed_then xs ys R = ap (λ (zs : List (List ℕ)). record { items = zs; fault = R.fault }) (sym (append_assoc xs ys R.items))

none_left : (x : Option (List ℕ)) → IsAtEnd x → bytes_left x ≡ []
none_left None e = refl
none_left (Some xs) e = e

or_true : (a b : Bool) → (a || b) ≡ true → (a ≡ true) ⊎ (b ≡ true)
or_true true b e = inl refl
or_true false b e = inr e

or_false : (a b : Bool) → (a || b) ≡ false → a ≡ false
or_false true b e = absurd (cc)
or_false false b e = refl

ends_none : (m : ℕ) (fault : Option Kind) → ends_at m 0 fault ≡ None → fault ≡ None
ends_none m None e = refl
ends_none m (Some k) e = absurd (cc)

take_past : (xs ys : List ℕ) (n : ℕ) → take (length xs + n) (xs ++ ys) ≡ xs ++ take n ys
take_past [] ys n = let same : 0 + n ≡ n = omega arith in ap (λ (m : ℕ). take m ys) same
take_past (x ∷ xs) ys n =
    let same : length (x ∷ xs) + n ≡ suc (length xs + n) = omega arith in
    ap (λ (m : ℕ). take m (x ∷ (xs ++ ys))) same ∙ ap (λ (zs : List ℕ). x ∷ zs) (take_past xs ys n)

-- bytes that begin with others, of which both go on
begins : (a b c d : List ℕ) → a ++ b ≡ c ++ d → length c ≤ length a → Grows c a
begins a b c d e le =
    let first : take (length c) a ≡ c = sym (take-append-le (length c) a b le) ∙ ap (take (length c)) e ∙ take_at c d (length c) refl in
    (drop (length c) a, sym (take-append-drop (length c) a) ∙ ap (λ (x : List ℕ). x ++ drop (length c) a) first)

-- nothing was read yet
pub streaming_none : (told : Told) (limit size : ℕ) (feed : Feeding) → feed.held ≡ [] → feed.given ≡ 0 → feed.window ≡ size → 16 ≤ size → Streaming told told limit limit size feed []
streaming_none told limit size feed held given sized least = record {
  read = [];
  reads = Reads-none told;
  counted = omega arith;
  steady = refl;
  sized = (sized, least);
  whole = λ more. ap (λ (x : List ℕ). x ++ more) (sym held);
  follows = λ more. ap (λ (x : List ℕ). frames (x ++ more)) (sym held);
  given = given;
}

module _ (before t t' : Told) (limit left left' size : ℕ) (feed feed' : Feeding) (windows : List (List (List ℕ))) (old new : List ℕ) (w : Window) (s : Streaming before t limit left size feed windows) (fed : Feeds feed feed' t t' left left' old new (Ok w)) where
  abbrev has : HasWindow feed feed' t t' left left' fed.taken old new w
  has = fed.cause

  abbrev all : List ℕ
  all = feed.held ++ fed.taken

  abbrev here : List (List ℕ)
  here = bodies_in new w

  abbrev read' : List ℕ
  read' = s.read ++ fed.taken

  abbrev bodies : List (List ℕ)
  bodies = bodies_of windows

  count : length here ≡ length w.frames.bodies
  count = length-map w.frames.bodies (text_of new)

  first : w.frames.first ≡ 1 + length bodies
  first = omega (arith, has.window.first, s.given)

  -- whatever stands after the window
  window_front : (more : List ℕ) → frames (read' ++ more) ≡ followed bodies None (frames (all ++ more))
  window_front more =
      ap frames (append_assoc s.read fed.taken more) ∙ s.follows (fed.taken ++ more)
      ∙ ap (λ (x : List ℕ). followed bodies None (frames x)) (sym (append_assoc feed.held fed.taken more))

  goes : (more : List ℕ) → frames (read' ++ more) ≡ followed (bodies ++ here) None (frames (feed'.held ++ more))
  goes more =
      window_front more ∙ ap (followed bodies None) ((front all).whole more) ∙ followed_then bodies (frames all).items (frames (rest all ++ more))
      ∙ ap (λ (xs : List (List ℕ)). followed (bodies ++ xs) None (frames (rest all ++ more))) (sym has.window.bodies)
      ∙ ap (λ (x : List ℕ). followed (bodies ++ here) None (frames (x ++ more))) (sym has.window.held)

  starts : (more : List ℕ) → AreWhole size (read' ++ more) windows (all ++ more)
  starts more =
      subst (λ (x : List ℕ). AreWhole size (read' ++ more) windows x) (sym (append_assoc feed.held fed.taken more))
      (subst (λ (x : List ℕ). AreWhole size x windows (feed.held ++ (fed.taken ++ more))) (sym (append_assoc s.read fed.taken more)) (s.whole (fed.taken ++ more)))

  whole_next : w.last ≡ false → (more : List ℕ) → AreWhole size (read' ++ more) (windows ++ here ∷ []) (feed'.held ++ more)
  whole_next e more =
      let more_comes = or_false has.at_end (is_lasting (frames all).fault) (sym has.last ∙ e) in
      let exact : length all ≡ wanted size all = is_whole feed.window all t' has.at_end has.whole more_comes ∙ ap (λ (n : ℕ). wanted n all) s.sized.0 in
      let least = s.sized.1 in
      let same : wanted size (all ++ more) ≡ length all = wanted_stays all more size (omega (arith, exact, least)) ∙ sym exact in
      let short : is_short size (all ++ more) ≡ false = le-ltb (length (all ++ more)) (wanted size (all ++ more)) (omega (arith, same, length-append all more)) in
      let cut_off : window size (all ++ more) ≡ all = take_at all more (wanted size (all ++ more)) (sym same) in
      let later : drop (wanted size (all ++ more)) (all ++ more) ≡ more = drop_at all more (wanted size (all ++ more)) (sym same) in
      let after : after_window size (all ++ more) ≡ feed'.held ++ more =
      ap (λ (x : List ℕ). rest x ++ drop (wanted size (all ++ more)) (all ++ more)) cut_off ∙ ap (λ (x : List ℕ). rest all ++ x) later ∙ ap (λ (x : List ℕ). x ++ more) (sym has.window.held) in
      let items : here ≡ (frames (window size (all ++ more))).items = has.window.bodies ∙ ap (λ (x : List ℕ). (frames x).items) (sym cut_off) in
      whole_then size (read' ++ more) windows (all ++ more) here (feed'.held ++ more) (starts more) short items after

  reads' : Reads before t' read'
  reads' = Reads-append before t t' s.read fed.taken s.reads fed.reads

  counted' : limit ≡ length read' + left'
  counted' = omega (arith, s.counted, has.counted, length-append s.read fed.taken)

  given' : feed'.given ≡ length (bodies ++ here)
  given' = omega (arith, s.given, has.window.given, count, length-append bodies here)

  streaming_next : w.last ≡ false → Streaming before t' limit left' size feed' (windows ++ here ∷ [])
  streaming_next e = record {
    read = read';
    reads = reads';
    counted = counted';
    steady = has.steady ∙ s.steady;
    sized = (has.window.window ∙ s.sized.0, s.sized.1);
    whole = whole_next e;
    follows = λ more. goes more ∙ ap (λ (xs : List (List ℕ)). followed xs None (frames (feed'.held ++ more))) (sym (bodies_then windows here));
    given = given' ∙ ap length (sym (bodies_then windows here));
  }

  -- the last window is the end of the file
  last_ends : (at_end : Bool) → IsTakenIn feed.window all t' at_end → (at_end || is_lasting (frames all).fault) ≡ true → frames (all ++ bytes_left t'.left) ≡ frames all
  last_ends true taken e = ap frames (ap (λ (x : List ℕ). all ++ x) (none_left t'.left taken.1) ∙ append-nil all)
  last_ends false taken e = (front all).lasts (bytes_left t'.left) e

  at_end_if : (at_end : Bool) → IsTakenIn feed.window all t' at_end → (at_end || is_lasting (frames all).fault) ≡ true → (frames all).fault ≡ None → IsAtEnd t'.left
  at_end_if true taken e sound = taken.1
  at_end_if false taken e sound = absurd (let never : false ≡ true = ap is_lasting (sym sound) ∙ e in cc)

  file_ends : w.last ≡ true → frames (file_of read' t') ≡ record { items = bodies ++ here; fault = (frames all).fault }
  file_ends e =
      window_front (bytes_left t'.left) ∙ ap (followed bodies None) (last_ends has.at_end has.whole (sym has.last ∙ e))
      ∙ ap (λ (xs : List (List ℕ)). record { items = bodies ++ xs; fault = (frames all).fault }) (sym has.window.bodies)

  tail_is : w.last ≡ true → w.frames.tail ≡ ends_at (1 + length (bodies ++ here)) 0 (frames all).fault
  tail_is e =
      let number : w.frames.first + length w.frames.bodies ≡ 1 + length (bodies ++ here) = omega (arith, first, count, length-append bodies here) in
      has.window.tail ∙ ap (λ (is : Bool). ends_at (w.frames.first + length w.frames.bodies) 0 (kept_if is (frames all).fault)) e
      ∙ ap (λ (n : ℕ). ends_at n 0 (frames all).fault) number

  at_last : (last : Bool) → w.last ≡ last → AtWindow before t' limit left' size feed' windows new w
  at_last false e = record {
    read = read';
    reads = reads';
    counted = counted';
    steady = has.steady ∙ s.steady;
    first = first;
    rest = rows_on (1 + length (bodies ++ here)) (frames (feed'.held ++ bytes_left t'.left));
    rows = rows_followed (file_of read' t') (bodies ++ here) (frames (feed'.held ++ bytes_left t'.left)) (goes (bytes_left t'.left));
    next = streaming_next;
    last = λ is. absurd (let never : false ≡ true = sym e ∙ is in cc);
  }
  at_last true e = record {
    read = read';
    reads = reads';
    counted = counted';
    steady = has.steady ∙ s.steady;
    first = first;
    rest = record { items = []; fault = w.frames.tail };
    rows = ap (rows_on 1) (file_ends e) ∙ last_rows 1 (1 + length (bodies ++ here)) (bodies ++ here) (frames all).fault refl
        ∙ ap (λ (f : Option Fault). rows_then 1 (bodies ++ here) (record { items = []; fault = f })) (sym (tail_is e));
    next = λ is. absurd (let never : true ≡ false = sym e ∙ is in cc);
    last = λ is. record {
      tail = refl;
      ends = λ none. at_end_if has.at_end has.whole (sym has.last ∙ e) (ends_none (1 + length (bodies ++ here)) (frames all).fault (sym (tail_is e) ∙ none));
      given = given' ∙ ap (λ (R : Reading (List ℕ) Kind). length R.items) (sym (file_ends e));
    };
  }

  pub at_window : AtWindow before t' limit left' size feed' windows new w
  at_window = at_last w.last refl

-- the same without what a source tells
pub has_taken : (t t' : Told) (left left' : ℕ) (feed feed' : Feeding) (old new : List ℕ) (w : Window) → Feeds feed feed' t t' left left' old new (Ok w) → length new ≤ most_bytes → HasTaken feed feed' left left' old new w
has_taken t t' left left' feed feed' old new w fed short =
    let has : HasWindow feed feed' t t' left left' fed.taken old new w = fed.cause in
    let all = feed.held ++ fed.taken in
    let sizes = ap length has.window.bytes in
    let within = (front all).within in
    record {
      grows = begins new (rest all) old all has.window.bytes (omega (arith, sizes, within, length-append new (rest all), length-append old all));
      short = short;
      laid = (length new, subst (λ (at : ℕ). AreLaid at w.frames.bodies (length new)) (sym has.window.lo) has.window.laid, omega arith);
      going = λ e. has.window.ended ∙ e;
      bytes = has.bytes;
      comes_on = has.comes_on;
      alone = λ none.
          cut all new (has.window.bytes ∙ ap (λ (x : List ℕ). x ++ all) none)
          ∙ ap (λ (xs : List (List ℕ)). let R : Reading (List ℕ) Kind = record { items = xs; fault = None } in R) (sym has.window.bodies);
    }

-- a window that was read and isn't decoded
pub at_unread : (before t : Told) (limit left size : ℕ) (feed : Feeding) (windows : List (List (List ℕ))) (bytes : List ℕ) (w : Window) → AtWindow before t limit left size feed windows bytes w → Unread before t limit left size windows stopped.NoMemory
at_unread before t limit left size feed windows bytes w at = record {
  read = at.read;
  reads = at.reads;
  rest = rows_then w.frames.first (bodies_in bytes w) at.rest;
  rows = at.rows ∙ then_append 1 w.frames.first (bodies_of windows) (bodies_in bytes w) at.rest at.first;
  cause = (at.counted, at.steady);
}

-- without a window
module _ (before t t' : Told) (limit left left' size : ℕ) (feed feed' : Feeding) (windows : List (List (List ℕ))) (old new : List ℕ) (s : Streaming before t limit left size feed windows) where
  pub no_window : Unread before t limit left size windows stopped.NoMemory
  no_window = record {
    read = s.read;
    reads = s.reads;
    rest = rows_on (1 + length (bodies_of windows)) (frames (feed.held ++ bytes_left t.left));
    rows = rows_followed (file_of s.read t) (bodies_of windows) (frames (feed.held ++ bytes_left t.left)) (s.follows (bytes_left t.left));
    cause = (s.counted, s.steady);
  }

  module _ (taken : List ℕ) (reads : Reads t t' taken) where
    abbrev over : List ℕ
    over = feed.held ++ (taken ++ bytes_left t'.left)

    rows_over : all_rows (file_of (s.read ++ taken) t') ≡ rows_then 1 (bodies_of windows) (rows_on (1 + length (bodies_of windows)) (frames over))
    rows_over =
        rows_followed (file_of (s.read ++ taken) t') (bodies_of windows) (frames over) (ap frames (append_assoc s.read taken (bytes_left t'.left)) ∙ s.follows (taken ++ bytes_left t'.left))

    all_whole : (some : List ℕ) → length (feed.held ++ some) < wanted feed.window (feed.held ++ some) → AreAllWhole size (s.read ++ some) windows
    all_whole some short = (
      feed.held ++ some,
      s.whole some,
      lt-ltb (length (feed.held ++ some)) (wanted size (feed.held ++ some)) (subst (λ (n : ℕ). length (feed.held ++ some) < wanted n (feed.held ++ some)) s.sized.0 short),
    )

    first_taken : take limit (s.read ++ taken) ≡ s.read ++ take left taken
    first_taken = ap (λ (n : ℕ). take n (s.read ++ taken)) s.counted ∙ take_past s.read taken left

    unread_by : (fault : FillFault) → Fed feed feed' t t' left left' taken old new (Err fault) → Unread before t' limit left' size windows (unread fault)
    unread_by fills.ReadFault fed = record {
      read = s.read ++ taken;
      reads = Reads-append before t t' s.read taken s.reads reads;
      rest = rows_on (1 + length (bodies_of windows)) (frames over);
      rows = rows_over;
      cause = (subst (λ (n : ℕ). Rose n t'.faults) s.steady fed.1.0, omega (arith, s.counted, fed.1.1, length-append s.read taken), all_whole taken fed.1.2);
    }
    unread_by fills.TooLong fed =
        let size_of = fed.1.1 in
        record {
          read = s.read ++ taken;
          reads = Reads-append before t t' s.read taken s.reads reads;
          rest = rows_on (1 + length (bodies_of windows)) (frames over);
          rows = rows_over;
          cause = (
            fed.1.0,
            omega (arith, size_of, s.counted, length-append s.read taken),
            fed.1.2 ∙ s.steady,
            subst (λ (x : List ℕ). AreAllWhole size x windows) (sym first_taken) (all_whole (take left taken) fed.1.3),
          );
        }
    unread_by fills.NoMemory fed = record {
      read = s.read ++ taken;
      reads = Reads-append before t t' s.read taken s.reads reads;
      rest = rows_on (1 + length (bodies_of windows)) (frames over);
      rows = rows_over;
      cause = (omega (arith, s.counted, fed.1.0, length-append s.read taken), fed.1.1 ∙ s.steady);
    }

  pub refused : (fault : FillFault) → Feeds feed feed' t t' left left' old new (Err fault) → Unread before t' limit left' size windows (unread fault)
  refused fault fed = unread_by fed.taken fed.reads fault fed.cause
