-- What is counted of a source's items.
use Rattle.std.specs.Prelude.{◌≡◌, ℕ, ◌+◌, Bool, List, length, Some, None, Result, Ok, Err}
use Rattle.std.specs.Io.KnownBytes.{IsAtEnd}
use Rattle.jl_base.specs.Causes.{Rose}
use Rattle.jl_base.specs.Results.{Reading}
use Rattle.jl_base.specs.Sources.{Told, Reads}
use Rattle.jl_base.specs.Terms.{Item}
use Rattle.jl_base.specs.declared.place.Fault.{Fault}
use Rattle.jl_rows.specs.Decoder.{decode}
use Rattle.jl_rows.specs.Files.{frames}
use Rattle.jl_lines.specs.Counts.{namespaces, statements}
use Rattle.jl_windows.specs.Sources.{file_of}
use Rattle.jl_windows.specs.declared.stopped.Stopped.{Stopped}
use Rattle.jl_windows.specs.declared.stopped.Stopped.TheVariants as stopped
use Rattle.jl_windows.specs.declared.stopped.Streamed.{Streamed}

-- the counts of a file's items and frames, to the source's end
pub record AreCounted (file : List ℕ) (said : Reading Item Fault) (before after : Told) (limit left : ℕ) (read : List ℕ) (s : Streamed) : Type 0 where
  pub fault : said.fault ≡ None
  pub tally : s ≡ record { frames = length (frames file).items; counts = record { statements = statements said.items; namespaces = namespaces said.items } }
  pub ends : IsAtEnd after.left
  pub counted : limit ≡ length read + left
  pub steady : after.faults ≡ before.faults

abbrev pub IsCounted : Bool → Told → Told → ℕ → ℕ → List ℕ → Result Streamed Stopped → Type 0
IsCounted strict before after limit left read (Ok s) = AreCounted (file_of read after) (decode strict (file_of read after)) before after limit left read s
IsCounted strict before after limit left read (Err (stopped.Malformed fault)) = ((decode strict (file_of read after)).fault ≡ Some fault) × (limit ≡ length read + left) × (after.faults ≡ before.faults)
IsCounted strict before after limit left read (Err stopped.ReadFault) = Rose before.faults after.faults × (limit ≡ length read + left)
IsCounted strict before after limit left read (Err stopped.TooLong) = (left ≡ 0) × (length read ≡ limit + 1) × (after.faults ≡ before.faults)
IsCounted strict before after limit left read (Err stopped.WriteFault) = ⊥
IsCounted strict before after limit left read (Err stopped.NoMemory) = (limit ≡ length read + left) × (after.faults ≡ before.faults)

-- These bytes of a source were read, and the file's items counted, or not.
pub record CountsSource (strict : Bool) (before after : Told) (limit left : ℕ) (result : Result Streamed Stopped) : Type 0 where
  pub read : List ℕ
  pub reads : Reads before after read
  pub cause : IsCounted strict before after limit left read result
