-- A file that is read window by window: how far it has come, and its end.
use Rattle.std.proofs.Common.{◌≡◌, ℕ, ◌+◌, ◌≤◌, ◌⊎◌, ◌||◌, Bool, true, false, List, [], ◌++◌, length, drop, Option, Some, None, Ok, refl, sym, ◌∙◌, ap, subst, arith, append_assoc, append-nil, length-append, take_at, drop_at, inl, inr}
use Rattle.std.proofs.lemmas.Bool.{le-ltb, lt-ltb}
use Rattle.std.proofs.lemmas.List.{length-map, take_all, drop_all}
use Rattle.std.specs.Io.KnownBytes.{Consumes, IsAtEnd}
use Rattle.jl_base.specs.Results.{Reading, followed}
use Rattle.jl_base.specs.Spans.{text_of}
use Rattle.jl_base.specs.Sources.{Told}
use Rattle.jl_base.specs.declared.kind.Kind.{Kind}
use Rattle.jl_base.proofs.SourceLemmas.{Reads-none, Reads-append}
use Rattle.jl_rows.specs.Files.{ends_at, frames}
use Rattle.jl_frames.specs.Feeding.{Feeding, Feeds, IsTakenIn}
use Rattle.jl_frames.specs.Following.{Between, GoesOn, IsNext, TakesNext, bytes_left}
use Rattle.jl_frames.specs.Windows.{rest, is_last, is_lasting, is_short, framed, kept_if, wanted, window}
use Rattle.jl_frames.specs.declared.feed.Window.{Window}
use Rattle.jl_frames.proofs.Fronts.{front}
use Rattle.jl_frames.proofs.WindowLaws.{wanted_stays}

followed_then : (xs ys : List (List ℕ)) (R : Reading (List ℕ) Kind) → followed xs None (followed ys None R) ≡ followed (xs ++ ys) None R
followed_then xs ys R = ap (λ (zs : List (List ℕ)). record { items = zs; fault = R.fault }) (sym (append_assoc xs ys R.items))

-- nothing was read yet
between_none : (told : Told) (limit : ℕ) (feed : Feeding) → feed.held ≡ [] → feed.given ≡ 0 → Between told told limit limit feed
between_none told limit feed held given = record {
  read = [];
  reads = Reads-none told;
  counted = omega arith;
  sofar = [];
  follows = λ more. ap (λ (x : List ℕ). frames (x ++ more)) (sym held);
  given = given;
  steady = refl;
}

none_left : (x : Option (List ℕ)) → IsAtEnd x → bytes_left x ≡ []
none_left None e = refl
none_left (Some xs) e = e

module _ (before t t' : Told) (limit left left' : ℕ) (feed feed' : Feeding) (old new : List ℕ) (w : Window) (so_far : Between before t limit left feed) (fed : Feeds feed feed' t t' left left' old new (Ok w)) where
  abbrev all : List ℕ
  all = feed.held ++ fed.taken

  abbrev here : List (List ℕ)
  here = (frames all).items

  -- whatever stands after the window
  window_front : (more : List ℕ) → frames ((so_far.read ++ fed.taken) ++ more) ≡ followed so_far.sofar None (frames (all ++ more))
  window_front more =
      ap frames (append_assoc so_far.read fed.taken more) ∙ so_far.follows (fed.taken ++ more)
      ∙ ap (λ (x : List ℕ). followed so_far.sofar None (frames x)) (sym (append_assoc feed.held fed.taken more))

  between_next : w.last ≡ false → Between before t' limit left' feed'
  between_next none =
      let has = fed.cause in
      let size = ap length has.window.bodies in
      record {
        read = so_far.read ++ fed.taken;
        reads = Reads-append before t t' so_far.read fed.taken so_far.reads fed.reads;
        counted = omega (arith, so_far.counted, has.counted, length-append so_far.read fed.taken);
        sofar = so_far.sofar ++ here;
        follows = λ more. window_front more ∙ ap (followed so_far.sofar None) ((front all).whole more) ∙ followed_then so_far.sofar here (frames (rest all ++ more))
            ∙ ap (λ (x : List ℕ). followed (so_far.sofar ++ here) None (frames (x ++ more))) (sym has.window.held);
        given = omega (arith, so_far.given, has.window.given, size, length-map w.frames.bodies (text_of new), length-append so_far.sofar here);
        steady = has.steady ∙ so_far.steady;
      }

  or_true : (a b : Bool) → (a || b) ≡ true → (a ≡ true) ⊎ (b ≡ true)
  or_true true b e = inl refl
  or_true false b e = inr e

  last_ends : (at_end : Bool) → IsTakenIn feed.window all t' at_end → (at_end || is_lasting (frames all).fault) ≡ true → frames (all ++ bytes_left t'.left) ≡ frames all
  last_ends true taken e = ap frames (ap (λ (x : List ℕ). all ++ x) (none_left t'.left taken.1) ∙ append-nil all)
  last_ends false taken e = (front all).lasts (bytes_left t'.left) e

  -- the file ends with the last window
  file_ends : w.last ≡ true → frames ((so_far.read ++ fed.taken) ++ bytes_left t'.left) ≡ record { items = so_far.sofar ++ here; fault = (frames all).fault }
  file_ends e =
      let has = fed.cause in
      window_front (bytes_left t'.left) ∙ ap (followed so_far.sofar None) (last_ends has.at_end has.whole (sym has.last ∙ e))

pub goes_on : GoesOn
goes_on = record { start = between_none; next = between_next; end = file_ends }

-- of what a source tells, what was read and what is left
told_parts : (x y : Option (List ℕ)) (bytes taken : List ℕ) → x ≡ Some bytes → Consumes x y taken → bytes ≡ taken ++ bytes_left y
told_parts None y bytes taken is p = absurd (cc)
told_parts (Some xs) None bytes taken is p = absurd p
told_parts (Some xs) (Some ys) bytes taken is p = let same : xs ≡ bytes = cc in sym same ∙ p

-- a window of the definition, from its bytes and what is left after them
record IsCut (size : ℕ) (all more : List ℕ) (at_end : Bool) : Type 0 where
  window : window size (all ++ more) ≡ all
  short : is_short size (all ++ more) ≡ at_end
  later : drop (wanted size (all ++ more)) (all ++ more) ≡ more

is_cut : (size : ℕ) (all : List ℕ) (t' : Told) (at_end : Bool) → 10 ≤ size → IsTakenIn size all t' at_end → IsCut size all (bytes_left t'.left) at_end
is_cut size all t' false big whole =
    let more = bytes_left t'.left in
    let same : wanted size (all ++ more) ≡ length all = wanted_stays all more size (omega (arith, whole, big)) ∙ sym whole in
    record {
      window = take_at all more (wanted size (all ++ more)) (sym same);
      short = le-ltb (length (all ++ more)) (wanted size (all ++ more)) (omega (arith, same, length-append all more));
      later = drop_at all more (wanted size (all ++ more)) (sym same);
    }
is_cut size all t' true big ended =
    let none : bytes_left t'.left ≡ [] = none_left t'.left ended.1 in
    let same : all ++ bytes_left t'.left ≡ all = ap (λ (x : List ℕ). all ++ x) none ∙ append-nil all in
    record {
      window = ap (window size) same ∙ take_all (wanted size all) all (omega (arith, ended.0));
      short = ap (is_short size) same ∙ lt-ltb (length all) (wanted size all) ended.0;
      later = ap (λ (x : List ℕ). drop (wanted size x) x) same ∙ drop_all (wanted size all) all (omega (arith, ended.0)) ∙ sym none;
    }

pub takes_next : TakesNext
takes_next t t' left left' feed feed' old new w bytes fed big told =
    let has = fed.cause in
    let all = feed.held ++ fed.taken in
    let more = bytes_left t'.left in
    let stream : feed.held ++ bytes ≡ all ++ more = ap (λ (x : List ℕ). feed.held ++ x) (told_parts t.left t'.left bytes fed.taken told fed.reads.consumed) ∙ sym (append_assoc feed.held fed.taken more) in
    let cut = is_cut feed.window all t' has.at_end big has.whole in
    let last : w.last ≡ is_last feed.window (all ++ more) = has.last ∙ ap (λ (b : Bool). b || is_lasting (frames all).fault) (sym cut.short) ∙ ap (λ (x : List ℕ). is_short feed.window (all ++ more) || is_lasting (frames x).fault) (sym cut.window) in
    let fault : kept_if w.last (frames all).fault ≡ (framed feed.window (all ++ more)).fault = ap (λ (x : List ℕ). kept_if w.last (frames x).fault) (sym cut.window) ∙ ap (λ (b : Bool). kept_if b (frames (window feed.window (all ++ more))).fault) last in
    subst (λ (x : List ℕ). IsNext feed feed' x more new w) (sym stream) (record {
      last = last;
      bodies = has.window.bodies ∙ ap (λ (x : List ℕ). (frames x).items) (sym cut.window);
      tail = has.window.tail ∙ ap (ends_at (w.frames.first + length w.frames.bodies) 0) fault;
      after = ap (λ (x : List ℕ). x ++ more) (has.window.held ∙ ap rest (sym cut.window)) ∙ ap (λ (x : List ℕ). rest (window feed.window (all ++ more)) ++ x) (sym cut.later);
    })
