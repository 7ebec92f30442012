-- The decoding of a source, window by window, as a whole.
use Rattle.std.specs.Prelude.{◌≡◌, ℕ, ◌+◌, Bool, List, [], ◌++◌, length, take, Some, None, Result, Ok, Err}
use Rattle.std.specs.Io.KnownBytes.{IsAtEnd}
use Rattle.jl_base.specs.Causes.{Rose}
use Rattle.jl_base.specs.Results.{Reading}
use Rattle.jl_base.specs.Sinks.{Adds}
use Rattle.jl_base.specs.Sources.{Told, Reads}
use Rattle.jl_base.specs.Terms.{Item}
use Rattle.jl_base.specs.declared.place.Fault.{Fault}
use Rattle.jl_rows.specs.Decoder.{decode, decoded_under, head_of, held_to}
use Rattle.jl_rows.specs.Files.{Placed, frames, rows_then}
use Rattle.jl_lines.specs.Giving.{HasRisen, Outlet}
use Rattle.jl_lines.specs.Going.{Outcome, all_of}
use Rattle.jl_lines.specs.Writings.{written}
use Rattle.jl_lines.specs.declared.writing.Writing.{Writing}
use Rattle.jl_windows.specs.Sources.{file_of, no_rows}
use Rattle.jl_windows.specs.Whole.{AreAllWhole, bodies_of}
use Rattle.jl_windows.specs.declared.stopped.Stopped.{Stopped}
use Rattle.jl_windows.specs.declared.stopped.Stopped.TheVariants as stopped
use Rattle.jl_windows.specs.declared.stopped.Streamed.{Streamed}

-- what a file states whose rows these are
abbrev pub stated : Bool → Reading Placed Fault → Reading Item Fault
stated strict R = decoded_under (held_to strict (head_of R.items R.fault)) R.items R.fault

-- what rows come to, and what a file does
abbrev pub comes_of : Writing → Bool → Reading Placed Fault → Outcome
comes_of writing strict R = all_of (written writing) (stated strict R)

abbrev pub comes_to : Writing → Bool → List ℕ → Outcome
comes_to writing strict file = all_of (written writing) (decode strict file)

-- What was given is exactly what is written of the whole windows of some bytes, and these have no fault.
pub record OfWindows (writing : Writing) (strict : Bool) (size : ℕ) (bytes : List ℕ) (k k' : Outlet) : Type 0 where
  pub windows : List (List (List ℕ))
  pub all : AreAllWhole size bytes windows
  pub adds : Adds k.held k'.held (comes_of writing strict (rows_then 1 (bodies_of windows) no_rows)).lines
  pub fault : (comes_of writing strict (rows_then 1 (bodies_of windows) no_rows)).fault ≡ None

-- all was decoded, to the source's end
pub record IsDecoded (said : Outcome) (file : List ℕ) (before after : Told) (limit left : ℕ) (read rest : List ℕ) (k k' : Outlet) (s : Streamed) : Type 0 where
  pub fault : said.fault ≡ None
  pub all : rest ≡ []
  pub counts : said.counts ≡ s.counts
  pub frames : s.frames ≡ length (frames file).items
  pub ends : IsAtEnd after.left
  pub counted : limit ≡ length read + left
  pub steady : (after.faults ≡ before.faults) × (k'.faults ≡ k.faults)

-- the file's first fault, with all lines before it given
pub record IsMalformed (said : Outcome) (before after : Told) (limit left : ℕ) (read rest : List ℕ) (k k' : Outlet) (found : Fault) : Type 0 where
  pub fault : said.fault ≡ Some found
  pub all : rest ≡ []
  pub counted : limit ≡ length read + left
  pub steady : (after.faults ≡ before.faults) × (k'.faults ≡ k.faults)

-- why the decoding of a source ended
abbrev pub IsEnded : Writing → Bool → Told → Told → ℕ → ℕ → ℕ → List ℕ → List ℕ → Outlet → Outlet → Result Streamed Stopped → Type 0
IsEnded writing strict before after limit left size read rest k k' (Ok s) = IsDecoded (comes_to writing strict (file_of read after)) (file_of read after) before after limit left read rest k k' s
IsEnded writing strict before after limit left size read rest k k' (Err (stopped.Malformed fault)) = IsMalformed (comes_to writing strict (file_of read after)) before after limit left read rest k k' fault
IsEnded writing strict before after limit left size read rest k k' (Err stopped.ReadFault) = Rose before.faults after.faults × (k'.faults ≡ k.faults) × (limit ≡ length read + left) × OfWindows writing strict size read k k'
IsEnded writing strict before after limit left size read rest k k' (Err stopped.TooLong) = (left ≡ 0) × (length read ≡ limit + 1) × (after.faults ≡ before.faults) × (k'.faults ≡ k.faults) × OfWindows writing strict size (take limit read) k k'
IsEnded writing strict before after limit left size read rest k k' (Err stopped.WriteFault) = HasRisen k k' × (limit ≡ length read + left) × (after.faults ≡ before.faults)
IsEnded writing strict before after limit left size read rest k k' (Err stopped.NoMemory) = (limit ≡ length read + left) × (after.faults ≡ before.faults) × (k'.faults ≡ k.faults)

-- These bytes of a source were read. Of what is written of the file a prefix was given, and this is left.
pub record DecodesSource (writing : Writing) (strict : Bool) (before after : Told) (limit left size : ℕ) (k k' : Outlet) (result : Result Streamed Stopped) : Type 0 where
  pub read : List ℕ
  pub reads : Reads before after read
  pub given : List ℕ
  pub rest : List ℕ
  pub lines : (comes_to writing strict (file_of read after)).lines ≡ given ++ rest
  pub adds : Adds k.held k'.held given
  pub cause : IsEnded writing strict before after limit left size read rest k k' result
