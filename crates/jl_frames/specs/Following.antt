-- How far a file has come that is read window by window.
use Rattle.std.specs.Prelude.{◌≡◌, ℕ, ◌+◌, ◌≤◌, true, false, List, [], ◌++◌, length, map, Option, Some, None, Ok}
use Rattle.jl_base.specs.Results.{followed}
use Rattle.jl_base.specs.Sources.{Told, Reads}
use Rattle.jl_base.specs.Spans.{text_of}
use Rattle.jl_rows.specs.Files.{frames, ends_at}
use Rattle.jl_frames.specs.Feeding.{Feeding, Feeds}
use Rattle.jl_frames.specs.Windows.{after_window, framed, is_last}
use Rattle.jl_frames.specs.declared.feed.Window.{Window}

-- the bytes that a source has left, where it tells them
abbrev pub bytes_left : Option (List ℕ) → List ℕ
bytes_left None = []
bytes_left (Some left) = left

-- What was read so far of a source, of whose bytes `limit` might be read, the bodies of the frames so far, and that the
-- file goes on with what is held, whatever bytes follow.
pub record Between (before told : Told) (limit left : ℕ) (feed : Feeding) : Type 0 where
  pub read : List ℕ
  pub reads : Reads before told read
  pub counted : limit ≡ length read + left
  pub sofar : List (List ℕ)
  pub follows : (more : List ℕ) → frames (read ++ more) ≡ followed sofar None (frames (feed.held ++ more))
  pub given : feed.given ≡ length sofar
  pub steady : told.faults ≡ before.faults

-- From the start to the first window, from one window to the next, and to the end of the file, which is what was read
-- and what the source tells that it has left.
pub record GoesOn : Type 0 where
  pub start : (told : Told) (limit : ℕ) (feed : Feeding) → feed.held ≡ [] → feed.given ≡ 0 → Between told told limit limit feed
  pub next : (before t t' : Told) (limit left left' : ℕ) (feed feed' : Feeding) (old new : List ℕ) (w : Window) → Between before t limit left feed → Feeds feed feed' t t' left left' old new (Ok w) → w.last ≡ false
      → Between before t' limit left' feed'
  pub end : (before t t' : Told) (limit left left' : ℕ) (feed feed' : Feeding) (old new : List ℕ) (w : Window) (so_far : Between before t limit left feed) (fed : Feeds feed feed' t t' left left' old new (Ok w)) → w.last ≡ true
      → (frames ((so_far.read ++ fed.taken) ++ bytes_left t'.left) ≡ record { items = so_far.sofar ++ (frames (feed.held ++ fed.taken)).items; fault = (frames (feed.held ++ fed.taken)).fault })

-- A feed's window of a source that tells its bytes is the definition's next one of what is held and what is left, and
-- what is held and left after it is what the windows after it have.
pub record IsNext (feed feed' : Feeding) (stream left' : List ℕ) (new : List ℕ) (w : Window) : Type 0 where
  pub last : w.last ≡ is_last feed.window stream
  pub bodies : map (text_of new) w.frames.bodies ≡ (framed feed.window stream).items
  pub tail : w.frames.tail ≡ ends_at (w.frames.first + length w.frames.bodies) 0 (framed feed.window stream).fault
  pub after : feed'.held ++ left' ≡ after_window feed.window stream

abbrev pub TakesNext : Type 0
TakesNext = (t t' : Told) (left left' : ℕ) (feed feed' : Feeding) (old new : List ℕ) (w : Window) (bytes : List ℕ) → Feeds feed feed' t t' left left' old new (Ok w) → 10 ≤ feed.window → t.left ≡ Some bytes
    → IsNext feed feed' (feed.held ++ bytes) (bytes_left t'.left) new w
