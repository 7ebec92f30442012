-- The steps of decoding a source: windows without rows, the first one that has a row, and the windows after it.
use Rattle.std.specs.Prelude.{◌≡◌, ℕ, Bool, true, false, List, [], ◌++◌, Result, Ok, Err}
use Rattle.jl_base.specs.Results.{Reading}
use Rattle.jl_base.specs.Sources.{Told}
use Rattle.jl_base.specs.declared.place.Fault.{Fault}
use Rattle.jl_base.specs.declared.place.Place.{Place}
use Rattle.jl_rows.specs.Decoder as decoder
use Rattle.jl_rows.specs.Decoder.{head_of, held_to}
use Rattle.jl_rows.specs.Files.{Placed, rows_then}
use Rattle.jl_rows.specs.Seen.{options_seen}
use Rattle.jl_rows.specs.declared.options.Options.{Options}
use Rattle.jl_frames.specs.Feeding.{Feeding}
use Rattle.jl_frames.specs.declared.feed.Window.{Window}
use Rattle.jl_lines.specs.Counts.{none_counted}
use Rattle.jl_lines.specs.Giving.{Outlet, Passes}
use Rattle.jl_lines.specs.Going.{outcome}
use Rattle.jl_lines.specs.declared.decoding.Decoding.{Decoding}
use Rattle.jl_lines.specs.declared.giving.Broken.{Broken}
use Rattle.jl_lines.specs.declared.giving.Broken.TheVariants as broken
use Rattle.jl_lines.specs.declared.writing.Writing.{Writing}
use Rattle.jl_windows.specs.Sources.{AtWindow, Streaming, bodies_in}
use Rattle.jl_windows.specs.Streams.{DecodesSource, comes_of}
use Rattle.jl_windows.specs.Whole.{bodies_of}
use Rattle.jl_windows.specs.declared.seek.Sought.{Sought}
use Rattle.jl_windows.specs.declared.seek.Sought.TheVariants as sought
use Rattle.jl_windows.specs.declared.stopped.Stopped.{Stopped}
use Rattle.jl_windows.specs.declared.stopped.Stopped.TheVariants as stopped

-- why the decoding of a window was broken off
abbrev pub broken_off : Broken → Stopped
broken_off (broken.Malformed fault) = stopped.Malformed fault
broken_off broken.WriteFault = stopped.WriteFault
broken_off broken.NoMemory = stopped.NoMemory

-- the head of these rows
abbrev pub head_on : Bool → Reading Placed Fault → decoder.Head
head_on strict R = held_to strict (head_of R.items R.fault)

-- frames without rows
abbrev pub HaveNoRows : ℕ → List (List ℕ) → Type 0
HaveNoRows first bodies = (B : Reading Placed Fault) → rows_then first bodies B ≡ B

-- the windows so far had no rows
pub record Seeking (before told : Told) (limit left size : ℕ) (feed : Feeding) : Type 0 where
  pub windows : List (List (List ℕ))
  pub source : Streaming before told limit left size feed windows
  pub none : HaveNoRows 1 (bodies_of windows)

-- the window has the file's first row
pub record Begins (strict : Bool) (before told : Told) (limit left size : ℕ) (feed : Feeding) (bytes : List ℕ) (w : Window) (o : Options) : Type 0 where
  pub windows : List (List (List ℕ))
  pub at : AtWindow before told limit left size feed windows bytes w
  pub none : HaveNoRows 1 (bodies_of windows)
  pub place : Place
  pub head : (B : Reading Placed Fault) → head_on strict (rows_then w.frames.first (bodies_in bytes w) B) ≡ decoder.First (options_seen bytes o) place

-- A window more: there are no rows yet, or in the whole file; or it has the first row; or all is over.
abbrev pub Seeks : Bool → Told → Told → ℕ → ℕ → ℕ → Feeding → List ℕ → Result Sought Stopped → Type 0
Seeks strict before told limit left size feed bytes (Ok sought.Further) = Seeking before told limit left size feed
Seeks strict before told limit left size feed bytes (Ok sought.Ended) =
    (writing : Writing) (k : Outlet) → DecodesSource writing strict before told limit left size k k (Ok (record { frames = feed.given; counts = none_counted }))
Seeks strict before told limit left size feed bytes (Ok (sought.First w o)) = Begins strict before told limit left size feed bytes w o
Seeks strict before told limit left size feed bytes (Err why) = (writing : Writing) (k : Outlet) → DecodesSource writing strict before told limit left size k k (Err why)

-- Between two windows: whatever follows, what the file comes to is what the decoding comes to, after a prefix that was
-- given.
pub record Going (writing : Writing) (strict : Bool) (before told : Told) (limit left size : ℕ) (feed : Feeding) (bytes : List ℕ) (d : Decoding) (k k' : Outlet) : Type 0 where
  pub windows : List (List (List ℕ))
  pub source : Streaming before told limit left size feed windows
  pub went : (B : Reading Placed Fault) → Passes (comes_of writing strict (rows_then 1 (bodies_of windows) B)) k k' (outcome bytes d B)
  pub empty : d.page.lines ≡ []

-- the same before a window is decoded that was read
pub record Before (writing : Writing) (strict : Bool) (before told : Told) (limit left size : ℕ) (feed : Feeding) (bytes : List ℕ) (w : Window) (d : Decoding) (k k' : Outlet) : Type 0 where
  pub windows : List (List (List ℕ))
  pub at : AtWindow before told limit left size feed windows bytes w
  pub went : (B : Reading Placed Fault) → Passes (comes_of writing strict (rows_then 1 (bodies_of windows ++ bodies_in bytes w) B)) k k' (outcome bytes d (rows_then w.frames.first (bodies_in bytes w) B))

-- After a window: the decoding goes on, or the file is decoded, or all is over.
abbrev pub ComesTo : Writing → Bool → Told → Told → ℕ → ℕ → ℕ → Feeding → List ℕ → Decoding → Outlet → Outlet → Result Bool Stopped → Type 0
ComesTo writing strict before told limit left size feed bytes d k k' (Ok false) = Going writing strict before told limit left size feed bytes d k k'
ComesTo writing strict before told limit left size feed bytes d k k' (Ok true) = DecodesSource writing strict before told limit left size k k' (Ok (record { frames = feed.given; counts = d.counts }))
ComesTo writing strict before told limit left size feed bytes d k k' (Err why) = DecodesSource writing strict before told limit left size k k' (Err why)
