-- How far a source has come that is read window by window. The file is what was read of it, and what it tells that it has
-- left.
use Rattle.std.specs.Prelude.{◌≡◌, ℕ, ◌+◌, ◌<◌, ◌≤◌, true, false, List, [], ◌∷◌, ◌++◌, length, map, take, None, Result, Ok, Err}
use Rattle.std.specs.Io.KnownBytes.{IsAtEnd}
use Rattle.jl_base.specs.Causes.{Rose}
use Rattle.jl_base.specs.Limits.{most_bytes}
use Rattle.jl_base.specs.Results.{Reading, followed}
use Rattle.jl_base.specs.Sources.{Told, Reads}
use Rattle.jl_base.specs.Spans.{text_of}
use Rattle.jl_base.specs.declared.place.Fault.{Fault}
use Rattle.jl_base.specs.declared.space.FillFault.{FillFault}
use Rattle.jl_base.specs.declared.space.FillFault.TheVariants as fills
use Rattle.jl_rows.specs.Carries.{Grows}
use Rattle.jl_rows.specs.Files.{Placed, all_rows, frames, rows_then}
use Rattle.jl_frames.specs.Feeding.{Feeding}
use Rattle.jl_frames.specs.Following.{bytes_left}
use Rattle.jl_frames.specs.Index.{AreLaid, bytes_of}
use Rattle.jl_frames.specs.declared.feed.Window.{Window}
use Rattle.jl_windows.specs.Whole.{AreAllWhole, AreWhole, bodies_of}
use Rattle.jl_windows.specs.declared.stopped.Stopped.{Stopped}
use Rattle.jl_windows.specs.declared.stopped.Stopped.TheVariants as stopped

-- no rows and no fault
abbrev pub no_rows : Reading Placed Fault
no_rows = record { items = []; fault = None }

-- the file that these bytes were read of
abbrev pub file_of : List ℕ → Told → List ℕ
file_of read told = read ++ bytes_left told.left

-- why a window wasn't read
abbrev pub unread : FillFault → Stopped
unread fills.ReadFault = stopped.ReadFault
unread fills.TooLong = stopped.TooLong
unread fills.NoMemory = stopped.NoMemory

-- What was read so far of a source, of whose bytes `limit` might be read. It had these whole windows, and the file goes on
-- with what is held, whatever bytes follow.
pub record Streaming (before told : Told) (limit left size : ℕ) (feed : Feeding) (windows : List (List (List ℕ))) : Type 0 where
  pub read : List ℕ
  pub reads : Reads before told read
  pub counted : limit ≡ length read + left
  pub steady : told.faults ≡ before.faults
  pub sized : (feed.window ≡ size) × (16 ≤ size)
  pub whole : (more : List ℕ) → AreWhole size (read ++ more) windows (feed.held ++ more)
  pub follows : (more : List ℕ) → frames (read ++ more) ≡ followed (bodies_of windows) None (frames (feed.held ++ more))
  pub given : feed.given ≡ length (bodies_of windows)

-- the bodies of a window's frames, which lie in these bytes
abbrev pub bodies_in : List ℕ → Window → List (List ℕ)
bodies_in bytes w = map (text_of bytes) w.frames.bodies

-- the last window's end is the file's
pub record IsLast (file : List ℕ) (told : Told) (feed : Feeding) (rest : Reading Placed Fault) (w : Window) : Type 0 where
  pub tail : rest ≡ record { items = []; fault = w.frames.tail }
  pub ends : w.frames.tail ≡ None → IsAtEnd told.left
  pub given : feed.given ≡ length (frames file).items

-- A window was read after others. Its frames are the file's next ones, and after them stands the rest of the file's rows.
pub record AtWindow (before told : Told) (limit left size : ℕ) (feed : Feeding) (windows : List (List (List ℕ))) (bytes : List ℕ) (w : Window) : Type 0 where
  pub read : List ℕ
  pub reads : Reads before told read
  pub counted : limit ≡ length read + left
  pub steady : told.faults ≡ before.faults
  pub first : w.frames.first ≡ 1 + length (bodies_of windows)
  pub rest : Reading Placed Fault
  pub rows : all_rows (file_of read told) ≡ rows_then 1 (bodies_of windows ++ bodies_in bytes w) rest
  pub next : w.last ≡ false → Streaming before told limit left size feed (windows ++ bodies_in bytes w ∷ [])
  pub last : w.last ≡ true → IsLast (file_of read told) told feed rest w

-- Why no further window was had, with all that was read. After the source's fault, and where it is too long, all its whole
-- windows were had: of the bytes up to the limit, where it is too long.
abbrev pub IsUnread : Told → Told → ℕ → ℕ → ℕ → List (List (List ℕ)) → List ℕ → Stopped → Type 0
IsUnread before told limit left size windows read stopped.ReadFault = Rose before.faults told.faults × (limit ≡ length read + left) × AreAllWhole size read windows
IsUnread before told limit left size windows read stopped.TooLong = (left ≡ 0) × (length read ≡ limit + 1) × (told.faults ≡ before.faults) × AreAllWhole size (take limit read) windows
IsUnread before told limit left size windows read stopped.NoMemory = (limit ≡ length read + left) × (told.faults ≡ before.faults)
IsUnread before told limit left size windows read (stopped.Malformed fault) = ⊥
IsUnread before told limit left size windows read stopped.WriteFault = ⊥

pub record Unread (before told : Told) (limit left size : ℕ) (windows : List (List (List ℕ))) (why : Stopped) : Type 0 where
  pub read : List ℕ
  pub reads : Reads before told read
  pub rest : Reading Placed Fault
  pub rows : all_rows (file_of read told) ≡ rows_then 1 (bodies_of windows) rest
  pub cause : IsUnread before told limit left size windows read why

abbrev pub ReadsOn : Told → Told → ℕ → ℕ → ℕ → Feeding → List (List (List ℕ)) → List ℕ → Result Window Stopped → Type 0
ReadsOn before told limit left size feed windows bytes (Ok w) = AtWindow before told limit left size feed windows bytes w
ReadsOn before told limit left size feed windows bytes (Err why) = Unread before told limit left size windows why

-- A window's frames stand after the old bytes of a space.
pub record HasTaken (feed feed' : Feeding) (left left' : ℕ) (old new : List ℕ) (w : Window) : Type 0 where
  pub grows : Grows old new
  pub short : length new ≤ most_bytes
  pub laid : (last : ℕ) × AreLaid w.frames.lo w.frames.bodies last × (last ≤ length new)
  pub going : w.last ≡ false → feed'.ended ≡ false
  pub bytes : length feed.held + left ≡ length feed'.held + bytes_of w.frames + left'
  pub comes_on : w.last ≡ false → 0 < bytes_of w.frames
  pub alone : old ≡ [] → frames new ≡ record { items = bodies_in new w; fault = None }
