-- What the code's file is, from a run on.
use Rattle.std.specs.Prelude.{ℕ, ◌≤◌, length}
use Rattle.jl_base.specs.Limits.{most_bytes}
use Rattle.jl_frames.specs.Index.{AreLaid}
use Rattle.jl_frames.specs.Runs.{Cover}
use Rattle.jl_rows.specs.Heads.{ArePassed}
use Rattle.jl_rows.specs.Seen.{options_seen}
use Rattle.jl_scan.specs.declared.file.File.{File}
use Rattle.jl_scan.specs.Fields.{Field}

abbrev pub field_of : File → ℕ → Field
field_of file lo = record {
  bytes = file.space.now;
  options = options_seen file.space.now file.options.now;
  index = file.frames.now;
  runs = file.plan.now;
  lo = lo;
}

-- Its options passed the checks of a first row, its frames lie one after another in its bytes, and its runs cover them.
pub record IsFile (file : File) : Type 0 where
  pub passed : ArePassed file.space.now file.options.now
  pub short : length file.space.now ≤ most_bytes
  pub laid : (last : ℕ) × AreLaid file.frames.now.lo file.frames.now.bodies last × (last ≤ length file.space.now)
  pub cover : Cover file.frames.now 0 file.plan.now (length file.frames.now.bodies)
