-- A source that is surveyed window by window: from one window to the next, and to the end of the file.
use Rattle.std.proofs.Common.{◌≡◌, ℕ, ◌+◌, ◌*◌, ◌^◌, ◌≤◌, ◌||◌, Bool, true, false, List, [], ◌∷◌, ◌++◌, length, map, Option, Some, None, is_some, Ok, Err, refl, sym, ◌∙◌, ap, subst, arith, append_assoc, append-nil, length-append}
use Rattle.std.proofs.lemmas.List.{length-map}
use Rattle.std.specs.Io.KnownBytes.{IsAtEnd}
use Rattle.jl_base.specs.Causes.{Rose}
use Rattle.jl_base.specs.Results.{Reading, joined, followed}
use Rattle.jl_base.specs.Sources.{Told, Reads}
use Rattle.jl_base.specs.Spans.{text_of}
use Rattle.jl_base.specs.declared.kind.Kind.{Kind}
use Rattle.jl_base.specs.declared.place.Fault.{Fault}
use Rattle.jl_base.specs.declared.space.FillFault.{FillFault}
use Rattle.jl_base.specs.declared.space.FillFault.TheVariants as fills
use Rattle.jl_base.proofs.SourceLemmas.{Reads-none, Reads-append}
use Rattle.jl_rows.specs.Decoder.{Head, head_of}
use Rattle.jl_rows.specs.Files.{Placed, frames, frame_rows, ends_at, rows_from, rows_on, rows_then}
use Rattle.jl_rows.specs.Seen.{options_seen}
use Rattle.jl_rows.specs.Written.{StreamOptions}
use Rattle.jl_rows.specs.declared.options.Options.{Options}
use Rattle.jl_frames.specs.Feeding.{Feeding, Feeds, HasWindow, IsTakenIn}
use Rattle.jl_frames.specs.Following.{bytes_left}
use Rattle.jl_frames.specs.Index.{AreLaid, last_end}
use Rattle.jl_frames.specs.Windows.{rest, is_lasting, kept_if}
use Rattle.jl_frames.specs.declared.feed.Window.{Window}
use Rattle.jl_frames.proofs.Fronts.{front}
use Rattle.jl_frames.proofs.WalkLemmas.{laid_end}
use Rattle.jl_survey.specs.declared.numbers.Survey.{Survey}
use Rattle.jl_survey.specs.declared.windows.Unsurveyed.TheVariants as unsurveyed
use Rattle.jl_survey.specs.Surveys.{Surveyed, fault_under, survey, unless}
use Rattle.jl_survey.specs.Counting.{BeginsAll, ended, empty, fault_from, outlook, size_of, survey_seen, AreFew, AreFramesOf, Grew, HaveAllPassed, HasRoom, IsOver}
use Rattle.jl_survey.specs.Windowed.{ComesTo, HasRoomFor, Surveying, SurveysSource, lies_in, unread}
use Rattle.jl_survey.proofs.CountLaws.{few_at_start, nothing_left}
use Rattle.jl_survey.proofs.WholeLaws.{ended_by, frames_sound, none_left, sizes_alike}

abbrev nothing : Reading Placed Fault
nothing = record { items = []; fault = None }

-- the rows of frames, of which the first ones are a window's
split_rows : (n m : ℕ) (xs ys : List (List ℕ)) (fault : Option Kind) → m ≡ n + length xs → rows_from n (xs ++ ys) fault ≡ rows_then n xs (rows_from m ys fault)
unfolding rows_from
split_rows n m [] ys fault e = let same : n ≡ m = omega (arith, e) in ap (λ (k : ℕ). rows_from k ys fault) same
split_rows n m (x ∷ xs) ys fault e =
    let next : m ≡ (n + 1) + length xs = omega (arith, e) in
    ap (joined (frame_rows n x)) (split_rows (n + 1) m xs ys fault next)

fault_alone : (m : ℕ) (fault : Option Kind) → rows_from m [] fault ≡ record { items = []; fault = ends_at m 0 fault }
unfolding rows_from
fault_alone m fault = refl

last_rows : (n m : ℕ) (xs : List (List ℕ)) (fault : Option Kind) → m ≡ n + length xs → rows_from n xs fault ≡ rows_then n xs (ended (ends_at m 0 fault) nothing)
last_rows n m xs fault e =
    ap (λ (zs : List (List ℕ)). rows_from n zs fault) (sym (append-nil xs)) ∙ split_rows n m xs [] fault e
    ∙ ap (rows_then n xs) (fault_alone m fault ∙ sym (ended_by (ends_at m 0 fault)))

-- numbers are told only where there is no fault
under_sound : (h : Head) (fault : Fault) (x y : Surveyed) → unless (fault_under h (Some fault)) x ≡ Ok y → ⊥
under_sound Head.Nothing fault x y e = cc
under_sound (Head.First o place) fault x y e = cc
under_sound (Head.Bad bad) fault x y e = cc

no_fault : (o : Option StreamOptions) (items : List Placed) (fault : Option Fault) (x y : Surveyed) → unless (fault_from o (record { items = items; fault = fault })) x ≡ Ok y → fault ≡ None
no_fault o items None x y e = refl
no_fault None items (Some fault) x y e = absurd (under_sound (head_of items (Some fault)) fault x y e)
no_fault (Some o) items (Some fault) x y e = absurd (cc)

-- with no options yet it doesn't matter where they would lie
seen_anywhere : (a b : List ℕ) (s : Survey) → s.options ≡ None → survey_seen a s ≡ survey_seen b s
seen_anywhere a b s none = rw none refl

pub seen_there : (had : Bool) (kept window : List ℕ) (s : Survey) → had ≡ is_some s.options → survey_seen kept s ≡ survey_seen (lies_in had kept window) s
seen_there true kept window s is = refl
seen_there false kept window s is = by_options s.options refl
  where
    by_options : (o : Option Options) → s.options ≡ o → survey_seen kept s ≡ survey_seen window s
    by_options None none = seen_anywhere kept window s none
    by_options (Some o) some = absurd (let never : false ≡ true = is ∙ ap is_some some in cc)

pub over_there : (had : Bool) (kept window : List ℕ) (s : Survey) → had ≡ is_some s.options → IsOver window (lies_in had kept window) s
over_there true kept window s is none = absurd (let never : true ≡ false = is ∙ ap is_some none in cc)
over_there false kept window s is none = refl

pub passed_there : (had : Bool) (kept window : List ℕ) (s t : Survey) → had ≡ is_some s.options → HaveAllPassed kept s.options
    → ((o : Options) → s.options ≡ Some o → t.options ≡ Some o) → (s.options ≡ None → HaveAllPassed window t.options) → HaveAllPassed (lies_in had kept window) t.options
passed_there true kept window s t is passed keeps new = by_options s.options refl
  where
    by_options : (o : Option Options) → s.options ≡ o → HaveAllPassed kept t.options
    by_options None none = absurd (let never : true ≡ false = is ∙ ap is_some none in cc)
    by_options (Some o) some = subst (HaveAllPassed kept) (some ∙ sym (keeps o some)) passed
passed_there false kept window s t is passed keeps new = by_options s.options refl
  where
    by_options : (o : Option Options) → s.options ≡ o → HaveAllPassed window t.options
    by_options None none = new none
    by_options (Some o) some = absurd (let never : false ≡ true = is ∙ ap is_some some in cc)

-- options that were met in this window are brought to other bytes
abbrev with_options : Survey → StreamOptions → Surveyed
with_options s o = record (survey_seen [] s) { options = Some o }

pub seen_brought : (had : Bool) (kept space into : List ℕ) (s : Survey) (o o' : Options) → had ≡ false → s.options ≡ Some o → options_seen into o' ≡ options_seen space o
    → survey_seen into (record s { options = Some o' }) ≡ survey_seen (lies_in had kept space) s
seen_brought had kept space into s o o' new some same = rw (new, some) (ap (with_options s) same)

pub passed_new : (had : Bool) (window : List ℕ) (o t : Option Options) → had ≡ is_some o → had ≡ false → (o ≡ None → HaveAllPassed window t) → HaveAllPassed window t
passed_new had window None t is none new = new refl
passed_new had window (Some o) t is none new = absurd (let never : true ≡ false = sym is ∙ none in cc)

at_end_left : (x : Option (List ℕ)) → IsAtEnd x → bytes_left x ≡ []
at_end_left None e = refl
at_end_left (Some xs) e = e

-- nothing was read yet
pub starts : (told : Told) (limit : ℕ) (feed : Feeding) (kept : List ℕ) (s : Survey) → feed.held ≡ [] → feed.given ≡ 0 → s ≡ empty → BeginsAll s → Surveying told told limit limit feed kept s
starts told limit feed kept s held given fresh begins = record {
  read = [];
  reads = Reads-none told;
  counted = omega arith;
  goes_on = λ more.
      sym (begins kept more)
      ∙ ap (λ (x : List ℕ). outlook (survey_seen kept s) (length (x ++ more)) (frames (x ++ more)).items (rows_on 1 (frames (x ++ more)))) (sym held)
      ∙ ap (λ (n : ℕ). outlook (survey_seen kept s) (length (feed.held ++ more)) (frames (feed.held ++ more)).items (rows_on (n + 1) (frames (feed.held ++ more)))) (sym given);
  steady = refl;
  passed = subst (λ (t : Survey). HaveAllPassed kept t.options) (sym fresh) tt;
}

pub room_first : (held : List ℕ) (left : ℕ) (s : Survey) → held ≡ [] → s ≡ empty → left ≤ 2 ^ 60 → HasRoomFor (length held) left s
room_first held left s none fresh few = (0, subst (AreFew 0) (sym fresh) few_at_start, omega (arith, ap length none, few))

-- without a window
module _ (before t t' : Told) (limit left left' : ℕ) (feed feed' : Feeding) (kept kept' : List ℕ) (s : Survey) (old new : List ℕ) (so_far : Surveying before t limit left feed kept s) where
  pub refused : (fault : FillFault) → Feeds feed feed' t t' left left' old new (Err fault) → SurveysSource before t' limit left' kept' (Err (unread fault))
  refused fills.ReadFault fed = record {
    read = so_far.read ++ fed.taken;
    reads = Reads-append before t t' so_far.read fed.taken so_far.reads fed.reads;
    cause = subst (λ (n : ℕ). Rose n t'.faults) so_far.steady fed.cause.1.0;
  }
  refused fills.TooLong fed =
      let sizes = fed.cause.1.1 in
      record {
        read = so_far.read ++ fed.taken;
        reads = Reads-append before t t' so_far.read fed.taken so_far.reads fed.reads;
        cause = (fed.cause.1.0, omega (arith, sizes, so_far.counted, length-append so_far.read fed.taken), fed.cause.1.2 ∙ so_far.steady);
      }
  refused fills.NoMemory fed = record {
    read = so_far.read ++ fed.taken;
    reads = Reads-append before t t' so_far.read fed.taken so_far.reads fed.reads;
    cause = fed.cause.1.1 ∙ so_far.steady;
  }

pub no_window : (before t : Told) (limit left : ℕ) (feed : Feeding) (kept : List ℕ) (s : Survey) → Surveying before t limit left feed kept s → SurveysSource before t limit left kept (Err unsurveyed.NoMemory)
no_window before t limit left feed kept s so_far = record { read = so_far.read; reads = so_far.reads; cause = so_far.steady }

-- where a window's frames lie
pub window_laid : (feed feed' : Feeding) (b t : Told) (left left' : ℕ) (taken new : List ℕ) (w : Window) → HasWindow feed feed' b t left left' taken [] new w → AreFramesOf new w.frames
window_laid feed feed' b t left left' taken new w has =
    (length new, subst (λ (at : ℕ). AreLaid at w.frames.bodies (length new)) (sym has.window.lo) has.window.laid, omega arith)

pub window_room : (feed feed' : Feeding) (b t : Told) (left left' : ℕ) (taken old new : List ℕ) (w : Window) (s : Survey) → HasWindow feed feed' b t left left' taken old new w → HasRoomFor (length feed.held) left s → HasRoom (size_of w.frames) s
window_room feed feed' b t left left' taken old new w s has room =
    let bytes = has.bytes in
    let few = room.2 in
    (2 * room.0, room.1, omega (arith, bytes, few))

pub room_next : (feed feed' : Feeding) (b t : Told) (left left' : ℕ) (taken old new : List ℕ) (w : Window) (s s1 s2 : Survey) → HasWindow feed feed' b t left left' taken old new w → HasRoomFor (length feed.held) left s
    → Grew (2 * size_of w.frames) s s1 → ((most : ℕ) → AreFew most s1 → AreFew most s2) → HasRoomFor (length feed'.held) left' s2
room_next feed feed' b t left left' taken old new w s s1 s2 has room grew stays =
    let bytes = has.bytes in
    let few = room.2 in
    let twice : 2 * room.0 + 2 * size_of w.frames ≡ 2 * (room.0 + size_of w.frames) = omega arith in
    (room.0 + size_of w.frames, subst (λ (n : ℕ). AreFew n s2) twice (stays _ (grew (2 * room.0) room.1)), omega (arith, bytes, few))

-- with a window
module _ (before t t' : Told) (limit left left' : ℕ) (feed feed' : Feeding) (kept there new : List ℕ) (s : Survey) (w : Window) (so_far : Surveying before t limit left feed kept s) (taken : List ℕ)
    (has : HasWindow feed feed' t t' left left' taken [] new w) (same : survey_seen kept s ≡ survey_seen there s) where
  abbrev all : List ℕ
  all = feed.held ++ taken

  abbrev texts : List (List ℕ)
  texts = map (text_of new) w.frames.bodies

  abbrev seen : Surveyed
  seen = survey_seen there s

  -- the file, whatever follows the window
  whole : (more : List ℕ) → survey ((so_far.read ++ taken) ++ more) ≡ outlook seen (length (all ++ more)) (frames (all ++ more)).items (rows_on (feed.given + 1) (frames (all ++ more)))
  whole more =
      ap survey (append_assoc so_far.read taken more) ∙ so_far.goes_on (taken ++ more)
      ∙ ap (λ (x : List ℕ). outlook (survey_seen kept s) (length x) (frames x).items (rows_on (feed.given + 1) (frames x))) (sym (append_assoc feed.held taken more))
      ∙ ap (λ (t : Surveyed). outlook t (length (all ++ more)) (frames (all ++ more)).items (rows_on (feed.given + 1) (frames (all ++ more)))) same

  size_is : size_of w.frames ≡ length new
  size_is =
      let end : last_end w.frames.lo w.frames.bodies ≡ length new = ap (λ (at : ℕ). last_end at w.frames.bodies) has.window.lo ∙ laid_end 0 w.frames.bodies (length new) has.window.laid in
      omega (arith, end, has.window.lo)

  parts : length all ≡ length new + length (rest all)
  parts = let joined_up = ap length has.window.bytes in omega (arith, joined_up, length-append new (rest all))

  next_number : feed.given + 1 + length (frames all).items ≡ feed'.given + 1
  next_number = let size = ap length has.window.bodies in omega (arith, size, has.window.given, length-map w.frames.bodies (text_of new))

  tail_number : w.frames.first + length w.frames.bodies ≡ feed.given + 1 + length (frames all).items
  tail_number = let size = ap length has.window.bodies in omega (arith, size, has.window.first, length-map w.frames.bodies (text_of new))

  -- before the last window the file goes on with what is held
  abbrev after : List ℕ → List ℕ
  after more = feed'.held ++ more

  goes : (more : List ℕ) → frames (all ++ more) ≡ followed (frames all).items None (frames (after more))
  goes more = (front all).whole more ∙ ap (λ (x : List ℕ). followed (frames all).items None (frames (x ++ more))) (sym has.window.held)

  tail_none : w.last ≡ false → w.frames.tail ≡ None
  tail_none none = has.window.tail ∙ ap (λ (last : Bool). ends_at (w.frames.first + length w.frames.bodies) 0 (kept_if last (frames all).fault)) none

  rows_go : w.last ≡ false → (more : List ℕ) → rows_on (feed.given + 1) (frames (all ++ more)) ≡ rows_then w.frames.first texts (ended w.frames.tail (rows_on (feed'.given + 1) (frames (after more))))
  rows_go none more =
      ap (rows_on (feed.given + 1)) (goes more)
      ∙ split_rows (feed.given + 1) (feed'.given + 1) (frames all).items (frames (after more)).items (frames (after more)).fault (sym next_number)
      ∙ ap (λ (xs : List (List ℕ)). rows_then (feed.given + 1) xs (rows_on (feed'.given + 1) (frames (after more)))) (sym has.window.bodies)
      ∙ ap (λ (n : ℕ). rows_then n texts (rows_on (feed'.given + 1) (frames (after more)))) (sym has.window.first)
      ∙ ap (λ (tail : Option Fault). rows_then w.frames.first texts (ended tail (rows_on (feed'.given + 1) (frames (after more))))) (sym (tail_none none))

  size_goes : (more : List ℕ) → length (all ++ more) ≡ size_of w.frames + length (after more)
  size_goes more = let held = ap length has.window.held in omega (arith, size_is, parts, held, length-append all more, length-append feed'.held more)

  pub goes_on : w.last ≡ false → (more : List ℕ) → survey ((so_far.read ++ taken) ++ more)
      ≡ outlook seen (size_of w.frames + length (after more)) (texts ++ (frames (after more)).items) (rows_then w.frames.first texts (ended w.frames.tail (rows_on (feed'.given + 1) (frames (after more)))))
  goes_on none more =
      whole more
      ∙ ap (λ (n : ℕ). outlook seen n (frames (all ++ more)).items (rows_on (feed.given + 1) (frames (all ++ more)))) (size_goes more)
      ∙ ap (λ (F : Reading (List ℕ) Kind). outlook seen (size_of w.frames + length (after more)) F.items (rows_on (feed.given + 1) (frames (all ++ more)))) (goes more)
      ∙ ap (λ (xs : List (List ℕ)). outlook seen (size_of w.frames + length (after more)) (xs ++ (frames (after more)).items) (rows_on (feed.given + 1) (frames (all ++ more)))) (sym has.window.bodies)
      ∙ ap (outlook seen (size_of w.frames + length (after more)) (texts ++ (frames (after more)).items)) (rows_go none more)

  -- the last window is the end of the file
  ends_with : (at_end : Bool) → IsTakenIn feed.window all t' at_end → (at_end || is_lasting (frames all).fault) ≡ true → frames (all ++ bytes_left t'.left) ≡ frames all
  ends_with true taken_in e = ap frames (ap (λ (x : List ℕ). all ++ x) (at_end_left t'.left taken_in.1) ∙ append-nil all)
  ends_with false taken_in e = (front all).lasts (bytes_left t'.left) e

  rows_end : w.last ≡ true → rows_on (feed.given + 1) (frames all) ≡ rows_then w.frames.first texts (ended w.frames.tail nothing)
  rows_end last =
      let m = w.frames.first + length w.frames.bodies in
      let tail : ends_at m 0 (frames all).fault ≡ w.frames.tail = sym (has.window.tail ∙ ap (λ (is : Bool). ends_at m 0 (kept_if is (frames all).fault)) last) in
      last_rows (feed.given + 1) m (frames all).items (frames all).fault tail_number
      ∙ ap (λ (xs : List (List ℕ)). rows_then (feed.given + 1) xs (ended (ends_at m 0 (frames all).fault) nothing)) (sym has.window.bodies)
      ∙ ap (λ (n : ℕ). rows_then n texts (ended (ends_at m 0 (frames all).fault) nothing)) (sym has.window.first)
      ∙ ap (λ (fault : Option Fault). rows_then w.frames.first texts (ended fault nothing)) tail

  -- without a fault the source is at its end, and all bytes are those of frames
  at_end_if : (at_end : Bool) → IsTakenIn feed.window all t' at_end → (at_end || is_lasting (frames all).fault) ≡ true → (frames all).fault ≡ None → IsAtEnd t'.left
  at_end_if true taken_in e sound = taken_in.1
  at_end_if false taken_in e sound = absurd (let never : false ≡ true = ap is_lasting (sym sound) ∙ e in cc)

  pub at_end : w.last ≡ true → (frames all).fault ≡ None → IsAtEnd t'.left
  at_end last sound = at_end_if has.at_end has.whole (sym has.last ∙ last) sound

  size_ends : w.last ≡ true → (frames all).fault ≡ None → length (all ++ bytes_left t'.left) ≡ size_of w.frames + 0
  size_ends last sound =
      let left = ap length (at_end_left t'.left (at_end last sound)) in
      let none = none_left (rest all) ((front all).ends ∙ ap (λ (f : Option Kind). let R : Reading (List ℕ) Kind = record { items = []; fault = f } in R) sound) in
      omega (arith, left, none, size_is, parts, length-append all (bytes_left t'.left))

  pub ends : w.last ≡ true → survey ((so_far.read ++ taken) ++ bytes_left t'.left) ≡ outlook seen (size_of w.frames + 0) (texts ++ []) (rows_then w.frames.first texts (ended w.frames.tail nothing))
  ends last =
      let left = bytes_left t'.left in
      let R = rows_on (feed.given + 1) (frames all) in
      let size : R.fault ≡ None → length (all ++ left) ≡ size_of w.frames + 0 = λ sound. size_ends last (frames_sound (feed.given + 1) (frames all).items (frames all).fault sound) in
      whole left
      ∙ ap (λ (F : Reading (List ℕ) Kind). outlook seen (length (all ++ left)) F.items (rows_on (feed.given + 1) F)) (ends_with has.at_end has.whole (sym has.last ∙ last))
      ∙ sizes_alike seen (length (all ++ left)) (size_of w.frames + 0) (frames all).items R.items R.fault size
      ∙ ap (λ (xs : List (List ℕ)). outlook seen (size_of w.frames + 0) xs R) (sym has.window.bodies ∙ sym (append-nil texts))
      ∙ ap (outlook seen (size_of w.frames + 0) (texts ++ [])) (rows_end last)

  pub sound_if : (x : Surveyed) → w.last ≡ true → outlook seen (size_of w.frames + 0) (texts ++ []) (rows_then w.frames.first texts (ended w.frames.tail nothing)) ≡ Ok x → (frames all).fault ≡ None
  sound_if x last told =
      let R = rows_on (feed.given + 1) (frames all) in
      frames_sound (feed.given + 1) (frames all).items (frames all).fault (no_fault seen.options R.items R.fault _ x (ap (outlook seen (size_of w.frames + 0) (texts ++ [])) (rows_end last) ∙ told))

  module _ (reads : Reads t t' taken) (over : IsOver new there s) where
    -- what was read with this window
    so_far_reads : Reads before t' (so_far.read ++ taken)
    so_far_reads = Reads-append before t t' so_far.read taken so_far.reads reads

    so_far_counted : limit ≡ length (so_far.read ++ taken) + left'
    so_far_counted = omega (arith, so_far.counted, has.counted, length-append so_far.read taken)

    -- all of it was surveyed
    module _ (s1 s2 : Survey) (kept' : List ℕ) (comes : (size : ℕ) (bodies : List (List ℕ)) (B : Reading Placed Fault) → outlook seen (size_of w.frames + size) (texts ++ bodies) (rows_then w.frames.first texts (ended w.frames.tail B)) ≡ outlook (survey_seen there s1) size bodies B)
        (brought : survey_seen kept' s2 ≡ survey_seen there s1) (passed : HaveAllPassed kept' s2.options) where
      comes_next : w.last ≡ false → Surveying before t' limit left' feed' kept' s2
      comes_next none = record {
        read = so_far.read ++ taken;
        reads = so_far_reads;
        counted = so_far_counted;
        goes_on = λ more.
            goes_on none more ∙ comes (length (after more)) (frames (after more)).items (rows_on (feed'.given + 1) (frames (after more)))
            ∙ ap (λ (t : Surveyed). outlook t (length (after more)) (frames (after more)).items (rows_on (feed'.given + 1) (frames (after more)))) (sym brought);
        steady = has.steady ∙ so_far.steady;
        passed = passed;
      }

      comes_last : w.last ≡ true → SurveysSource before t' limit left' kept' (Ok s2)
      comes_last last =
          let told = comes 0 [] nothing ∙ nothing_left (survey_seen there s1) in
          record {
            read = so_far.read ++ taken;
            reads = so_far_reads;
            cause = record {
              numbers = ends last ∙ told ∙ ap Ok (sym brought);
              ends = at_end last (sound_if (survey_seen there s1) last told);
              counted = so_far_counted;
              steady = has.steady ∙ so_far.steady;
              passed = passed;
            };
          }

      by_last : (last : Bool) → w.last ≡ last → ComesTo before t' limit left' feed' kept' s2 (Ok last)
      by_last false is = comes_next is
      by_last true is = comes_last is

      pub comes_ok : ComesTo before t' limit left' feed' kept' s2 (Ok w.last)
      comes_ok = by_last w.last refl

    -- it has a fault
    module _ (kept' : List ℕ) (fault : Fault) (comes : (size : ℕ) (bodies : List (List ℕ)) (B : Reading Placed Fault) → outlook seen (size_of w.frames + size) (texts ++ bodies) (rows_then w.frames.first texts (ended w.frames.tail B)) ≡ Err fault) where
      said_by : (last : Bool) → w.last ≡ last → survey ((so_far.read ++ taken) ++ bytes_left t'.left) ≡ Err fault
      said_by false is = goes_on is (bytes_left t'.left) ∙ comes (length (after (bytes_left t'.left))) (frames (after (bytes_left t'.left))).items (rows_on (feed'.given + 1) (frames (after (bytes_left t'.left))))
      said_by true is = ends is ∙ comes 0 [] nothing

      pub comes_err : SurveysSource before t' limit left' kept' (Err (unsurveyed.Malformed fault))
      comes_err = record { read = so_far.read ++ taken; reads = so_far_reads; cause = (said_by w.last refl, so_far_counted, has.steady ∙ so_far.steady) }

    pub comes_none : (kept' : List ℕ) → SurveysSource before t' limit left' kept' (Err unsurveyed.NoMemory)
    comes_none kept' = record { read = so_far.read ++ taken; reads = so_far_reads; cause = has.steady ∙ so_far.steady }
