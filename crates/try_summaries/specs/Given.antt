-- A file that is gone over, and its runs.
use Rattle.std.specs.Prelude.{◌≤◌, ◌+◌, ◌-◌, length}
use Rattle.jl_base.specs.Limits.{most_bytes}
use Rattle.jl_base.specs.declared.place.Run.{Run}
use Rattle.jl_frames.specs.Index.{Index, IsIndex}
use Rattle.jl_rows.specs.Heads.{ArePassed}
use Rattle.try_summaries.specs.declared.runs.Given.{Given}

pub record IsFile (g : Given) : Type 0 where
  pub passed : ArePassed g.bytes.now g.options.now
  pub short : length g.bytes.now ≤ most_bytes
  pub indexed : IsIndex g.bytes.now g.frames.now

pub record IsRun (index : Index) (run : Run) : Type 0 where
  pub first : index.first ≤ run.first_frame
  pub within : run.first_frame - index.first + run.frames ≤ length index.bodies
