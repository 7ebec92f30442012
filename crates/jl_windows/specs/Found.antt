-- What is known of a window in which the first row was sought.
use Rattle.std.specs.Prelude.{◌≡◌, ℕ, ◌+◌, ◌<◌, ◌≤◌, Bool, false, List, length}
use Rattle.jl_base.specs.Limits.{most_bytes}
use Rattle.jl_rows.specs.Heads.{ArePassed}
use Rattle.jl_rows.specs.declared.options.Options.{Options}
use Rattle.jl_frames.specs.Feeding.{Feeding}
use Rattle.jl_frames.specs.Index.{AreLaid, bytes_of}
use Rattle.jl_frames.specs.declared.feed.Window.{Window}
use Rattle.jl_windows.specs.declared.seek.Sought.{Sought}
use Rattle.jl_windows.specs.declared.seek.Sought.TheVariants as sought

-- the window that has the first row, and its options
pub record HasFirst (feed feed' : Feeding) (left left' : ℕ) (space : List ℕ) (w : Window) (o : Options) : Type 0 where
  pub passed : ArePassed space o
  pub short : length space ≤ most_bytes
  pub laid : (last : ℕ) × AreLaid w.frames.lo w.frames.bodies last × (last ≤ length space)
  pub going : w.last ≡ false → feed'.ended ≡ false
  pub bytes : length feed.held + left ≡ length feed'.held + bytes_of w.frames + left'

abbrev pub IsFound : Feeding → Feeding → ℕ → ℕ → List ℕ → Sought → Type 0
IsFound feed feed' left left' bytes sought.Further = (feed'.ended ≡ false) × (length feed'.held + left' < length feed.held + left)
IsFound feed feed' left left' bytes sought.Ended = Unit {0}
IsFound feed feed' left left' bytes (sought.First w o) = HasFirst feed feed' left left' bytes w o

-- what is answered for a window without rows, by whether it is the last one
abbrev pub OfRowless : Bool → Sought → Type 0
OfRowless last sought.Further = last ≡ false
OfRowless last sought.Ended = Unit {0}
OfRowless last (sought.First w o) = ⊥
