-- A file's waves, by the runs that stand before them.
use Rattle.std.proofs.Common.{◌≡◌, ℕ, ◌+◌, length, ap, ◌∙◌, arith}
use Rattle.jl_base.specs.Results.{Reading}
use Rattle.jl_base.specs.declared.place.Fault.{Fault}
use Rattle.jl_rows.specs.Files.{Placed}
use Rattle.jl_frames.specs.Index.{behind}
use Rattle.jl_frames.specs.Runs.{frames_before}
use Rattle.jl_frames.specs.Stretches.{between}
use Rattle.jl_frames.proofs.Stretches.{between_split}
use Rattle.jl_scan.specs.declared.file.File.{File}
use Rattle.jl_scan.specs.Fields.{IsStateOf, before}
use Rattle.jl_scan.specs.Files.{IsFile, field_of}
use Rattle.jl_scan.proofs.FieldLemmas.{before_rises, before_within, field_is}
use Rattle.jl_state.specs.declared.state.State.{State}

-- a state of the file is one from whatever run on
pub state_from : (file : File) (lo hi : ℕ) (s : State) → IsStateOf (field_of file lo) s → IsStateOf (field_of file hi) s
state_from file lo hi s is = record { lawful = is.lawful; options = is.options; settled = is.settled }

module _ (file : File) (is : IsFile file) (lo n next : ℕ) (same : lo + n ≡ next) where
  -- the frames from a run on: those of the next n runs, and the others
  pub wave_split : (B : Reading Placed Fault) → between file.space.now file.frames.now (frames_before file.plan.now lo) (length file.frames.now.bodies) B
      ≡ between file.space.now file.frames.now (before (field_of file lo) 0) (before (field_of file lo) n) (between file.space.now file.frames.now (frames_before file.plan.now next) (length file.frames.now.bodies) B)
  wave_split B =
      let w = field_of file lo in
      let all = length file.frames.now.bodies in
      let here : lo ≡ lo + 0 = omega arith in
      ap (λ (i : ℕ). between file.space.now file.frames.now (frames_before file.plan.now i) all B) here
      ∙ between_split file.space.now file.frames.now (before w 0) (before w n) all B (before_rises w (field_is file lo is) 0 n (omega arith)) (before_within w (field_is file lo is) n) (omega arith)
      ∙ ap (λ (i : ℕ). between file.space.now file.frames.now (before w 0) (before w n) (between file.space.now file.frames.now (frames_before file.plan.now i) all B)) same

  pub wave_begins : behind file.frames.now (before (field_of file lo) 0) ≡ behind file.frames.now (frames_before file.plan.now lo)
  wave_begins = let here : lo + 0 ≡ lo = omega arith in ap (λ (i : ℕ). behind file.frames.now (frames_before file.plan.now i)) here

  pub wave_ends_at : behind file.frames.now (before (field_of file lo) n) ≡ behind file.frames.now (frames_before file.plan.now next)
  wave_ends_at = ap (λ (i : ℕ). behind file.frames.now (frames_before file.plan.now i)) same
