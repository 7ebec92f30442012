-- A source that is read window by window: what a feed keeps, and what one call of it does.
use Rattle.std.specs.Prelude.{◌≡◌, ℕ, ◌+◌, ◌<◌, ◌≤◌, ◌||◌, Bool, true, false, List, ◌++◌, length, take, map, max, Option, Result, Ok, Err}
use Rattle.std.specs.Io.KnownBytes.{IsAtEnd}
use Rattle.jl_base.specs.Causes.{Rose}
use Rattle.jl_base.specs.Sources.{Told, Reads}
use Rattle.jl_base.specs.Spans.{text_of}
use Rattle.jl_base.specs.declared.kind.Kind.{Kind}
use Rattle.jl_base.specs.declared.place.Span.{Span}
use Rattle.jl_base.specs.declared.space.FillFault.{FillFault}
use Rattle.jl_base.specs.declared.space.FillFault.TheVariants.{ReadFault, TooLong, NoMemory}
use Rattle.jl_rows.specs.Files.{frames, ends_at}
use Rattle.jl_frames.specs.Index.{Index, AreLaid, bytes_of, from}
use Rattle.jl_frames.specs.declared.feed.Window.{Window}
use Rattle.jl_frames.specs.Windows.{rest, wanted, is_lasting, kept_if}

-- the size of its windows, the bytes that it holds, how many frames it gave, and whether it is ended
pub record Feeding : Type 0 where
  pub window : ℕ
  pub held : List ℕ
  pub given : ℕ
  pub ended : Bool

-- Why bytes weren't had, while those that had come were too few: the source failed; or one byte more than the `left`
-- that might come was read, which doesn't count; or memory wasn't found.
abbrev pub IsRefused : (List ℕ → Type 0) → Told → Told → ℕ → ℕ → List ℕ → FillFault → Type 0
IsRefused TooFew before after left left' taken ReadFault = Rose before.faults after.faults × (left ≡ length taken + left') × TooFew taken
IsRefused TooFew before after left left' taken TooLong = (left' ≡ 0) × (length taken ≡ left + 1) × (after.faults ≡ before.faults) × TooFew (take left taken)
IsRefused TooFew before after left left' taken NoMemory = (left ≡ length taken + left') × (after.faults ≡ before.faults)

-- Bytes of a source were read and put after the old ones of a space; the source's count of faults stayed.
pub record IsTaken (before after : Told) (left left' : ℕ) (taken old new : List ℕ) : Type 0 where
  pub appended : new ≡ old ++ taken
  pub counted : left ≡ length taken + left'
  pub steady : after.faults ≡ before.faults

-- so many that the space has bytes up to a place, or ended before that
abbrev pub IsUpTo : ℕ → List ℕ → List ℕ → Told → Bool → Type 0
IsUpTo end old new after true = (length new < end) × IsAtEnd after.left
IsUpTo end old new after false = length new ≡ max end (length old)

-- the bytes of a space and these are too few up to a place
abbrev pub IsBelow : ℕ → List ℕ → List ℕ → Type 0
IsBelow end old taken = length old + length taken < end

abbrev pub TookTo : ℕ → Told → Told → ℕ → ℕ → List ℕ → List ℕ → List ℕ → Result Bool FillFault → Type 0
TookTo end before after left left' taken old new (Ok ended) = IsTaken before after left left' taken old new × IsUpTo end old new after ended
TookTo end before after left left' taken old new (Err fault) = (take (length old) new ≡ old) × IsRefused (IsBelow end old) before after left left' taken fault

-- Bytes are taken after those of a space, up to a place in it or to the source's end.
pub record Takes (end : ℕ) (before after : Told) (left left' : ℕ) (old new : List ℕ) (result : Result Bool FillFault) : Type 0 where
  pub taken : List ℕ
  pub reads : Reads before after taken
  pub cause : TookTo end before after left left' taken old new result

-- a window has all bytes that it wants, or the source ended before that
abbrev pub IsTakenIn : ℕ → List ℕ → Told → Bool → Type 0
IsTakenIn size all after true = (length all < wanted size all) × IsAtEnd after.left
IsTakenIn size all after false = length all ≡ wanted size all

-- what is held and these are fewer bytes than the window wants
abbrev pub IsShort : Feeding → List ℕ → Type 0
IsShort feed taken = length (feed.held ++ taken) < wanted feed.window (feed.held ++ taken)

abbrev pub TookIn : Feeding → Told → Told → ℕ → ℕ → List ℕ → List ℕ → List ℕ → Result Bool FillFault → Type 0
TookIn feed before after left left' taken old new (Ok ended) = IsTaken before after left left' taken (old ++ feed.held) new × IsTakenIn feed.window (feed.held ++ taken) after ended
TookIn feed before after left left' taken old new (Err fault) = (take (length old) new ≡ old) × IsRefused (IsShort feed) before after left left' taken fault

-- The bytes of a window are taken: those that are held, and then further ones.
pub record TakesIn (feed : Feeding) (before after : Told) (left left' : ℕ) (old new : List ℕ) (result : Result Bool FillFault) : Type 0 where
  pub taken : List ℕ
  pub reads : Reads before after taken
  pub cause : TookIn feed before after left left' taken old new result

-- All frames from a place on, the place after them, and the fault of what stands there.
pub record IsWalk (bytes : List ℕ) (start : ℕ) (bodies : List Span) (end : ℕ) (fault : Option Kind) : Type 0 where
  pub inside : end ≤ length bytes
  pub laid : AreLaid start bodies end
  pub read : frames (from bytes start) ≡ record { items = map (text_of bytes) bodies; fault = fault }
  pub rest : rest (from bytes start) ≡ from bytes end

-- The frames of a window: of all its bytes the whole frames stand after the old ones of the space, with their index,
-- numbered on from the frames that were given before; what is left of the bytes is held. Only the last window has the
-- fault of what stands after its frames.
pub record IsWindow (feed feed' : Feeding) (all old new : List ℕ) (index : Index) (last : Bool) : Type 0 where
  pub bytes : new ++ rest all ≡ old ++ all
  pub laid : AreLaid (length old) index.bodies (length new)
  pub bodies : map (text_of new) index.bodies ≡ (frames all).items
  pub tail : index.tail ≡ ends_at (index.first + length index.bodies) 0 (kept_if last (frames all).fault)
  pub lo : index.lo ≡ length old
  pub first : index.first ≡ feed.given + 1
  pub window : feed'.window ≡ feed.window
  pub held : feed'.held ≡ rest all
  pub given : feed'.given ≡ feed.given + length index.bodies
  pub ended : feed'.ended ≡ last

-- The window of the bytes that stand in a space from a place on.
abbrev pub IsParted : Feeding → Feeding → Bool → List ℕ → ℕ → List ℕ → Window → Type 0
IsParted feed feed' at_end old start new w = (w.last ≡ (at_end || is_lasting (frames (from old start)).fault)) × IsWindow feed feed' (from old start) (take start old) new w.frames w.last

-- The bytes of a window were taken, and it is the last one where the source ended before it had what it wants, or where
-- no further bytes make its fault good. A window that isn't the last has a frame.
pub record HasWindow (feed feed' : Feeding) (before after : Told) (left left' : ℕ) (taken old new : List ℕ) (w : Window) : Type 0 where
  pub at_end : Bool
  pub whole : IsTakenIn feed.window (feed.held ++ taken) after at_end
  pub last : w.last ≡ (at_end || is_lasting (frames (feed.held ++ taken)).fault)
  pub window : IsWindow feed feed' (feed.held ++ taken) old new w.frames w.last
  pub counted : left ≡ length taken + left'
  pub bytes : length feed.held + left ≡ length feed'.held + bytes_of w.frames + left'
  pub comes_on : w.last ≡ false → 0 < bytes_of w.frames
  pub steady : after.faults ≡ before.faults

abbrev pub Fed : Feeding → Feeding → Told → Told → ℕ → ℕ → List ℕ → List ℕ → List ℕ → Result Window FillFault → Type 0
Fed feed feed' before after left left' taken old new (Ok w) = HasWindow feed feed' before after left left' taken old new w
Fed feed feed' before after left left' taken old new (Err fault) = (new ≡ old) × IsRefused (IsShort feed) before after left left' taken fault × (feed'.ended ≡ true)

-- What one call of a feed does, by its answer. These bytes were read; after a refusal the space is unchanged.
pub record Feeds (feed feed' : Feeding) (before after : Told) (left left' : ℕ) (old new : List ℕ) (result : Result Window FillFault) : Type 0 where
  pub taken : List ℕ
  pub reads : Reads before after taken
  pub cause : Fed feed feed' before after left left' taken old new result
