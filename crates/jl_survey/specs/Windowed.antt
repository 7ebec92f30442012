-- A source that is surveyed window by window. The file is what was read of it, and what it tells that it has left.
use Rattle.std.specs.Prelude.{◌≡◌, ℕ, ◌+◌, ◌*◌, ◌≤◌, ◌^◌, Bool, true, false, List, ◌++◌, length, Result, Ok, Err}
use Rattle.std.specs.Io.KnownBytes.{IsAtEnd}
use Rattle.jl_base.specs.Causes.{Rose}
use Rattle.jl_base.specs.Sources.{Told, Reads}
use Rattle.jl_rows.specs.Files.{frames, rows_on}
use Rattle.jl_frames.specs.Feeding.{Feeding}
use Rattle.jl_frames.specs.Following.{bytes_left}
use Rattle.jl_survey.specs.declared.numbers.Survey.{Survey}
use Rattle.jl_base.specs.declared.space.FillFault.{FillFault}
use Rattle.jl_base.specs.declared.space.FillFault.TheVariants as fills
use Rattle.jl_survey.specs.declared.windows.Unsurveyed.{Unsurveyed}
use Rattle.jl_survey.specs.declared.windows.Unsurveyed.TheVariants.{Malformed, ReadFault, TooLong, NoMemory}
use Rattle.jl_survey.specs.Surveys.{survey}
use Rattle.jl_survey.specs.Counting.{outlook, survey_seen, AreFew, HaveAllPassed}

-- why a window wasn't read
abbrev pub unread : FillFault → Unsurveyed
unread fills.ReadFault = ReadFault
unread fills.TooLong = TooLong
unread fills.NoMemory = NoMemory

-- where the options lie: in the bytes that are kept, or in the window that they were met in
abbrev pub lies_in : Bool → List ℕ → List ℕ → List ℕ
lies_in true kept window = kept
lies_in false kept window = window

-- So many bytes have the frames so far: no number is greater than twice that, and with those that are held and may still
-- be read they aren't too many.
abbrev pub HasRoomFor : ℕ → ℕ → Survey → Type 0
HasRoomFor held left s = (framed : ℕ) × AreFew (2 * framed) s × (framed + held + left ≤ 2 ^ 60)

-- What was read so far of a source, of whose bytes `limit` might be read, and that a file which begins so is surveyed by
-- going on with what is held, whatever bytes follow.
pub record Surveying (before told : Told) (limit left : ℕ) (feed : Feeding) (kept : List ℕ) (s : Survey) : Type 0 where
  pub read : List ℕ
  pub reads : Reads before told read
  pub counted : limit ≡ length read + left
  pub goes_on : (more : List ℕ) → survey (read ++ more) ≡ outlook (survey_seen kept s) (length (feed.held ++ more)) (frames (feed.held ++ more)).items (rows_on (feed.given + 1) (frames (feed.held ++ more)))
  pub steady : told.faults ≡ before.faults
  pub passed : HaveAllPassed kept s.options

-- why a source wasn't surveyed
abbrev pub IsUnsurveyed : Told → Told → ℕ → ℕ → List ℕ → Unsurveyed → Type 0
IsUnsurveyed before after limit left read (Malformed fault) = (survey (read ++ bytes_left after.left) ≡ Err fault) × (limit ≡ length read + left) × (after.faults ≡ before.faults)
IsUnsurveyed before after limit left read ReadFault = Rose before.faults after.faults
IsUnsurveyed before after limit left read TooLong = (left ≡ 0) × (length read ≡ limit + 1) × (after.faults ≡ before.faults)
IsUnsurveyed before after limit left read NoMemory = after.faults ≡ before.faults

-- the file was surveyed, to the source's end
pub record IsSurveyed (before after : Told) (limit left : ℕ) (read kept : List ℕ) (s : Survey) : Type 0 where
  pub numbers : survey (read ++ bytes_left after.left) ≡ Ok (survey_seen kept s)
  pub ends : IsAtEnd after.left
  pub counted : limit ≡ length read + left
  pub steady : after.faults ≡ before.faults
  pub passed : HaveAllPassed kept s.options

-- A source was surveyed, or not, and these bytes of it were read.
abbrev pub IsSurvey : Told → Told → ℕ → ℕ → List ℕ → List ℕ → Result Survey Unsurveyed → Type 0
IsSurvey before after limit left read kept (Ok s) = IsSurveyed before after limit left read kept s
IsSurvey before after limit left read kept (Err why) = IsUnsurveyed before after limit left read why

pub record SurveysSource (before after : Told) (limit left : ℕ) (kept : List ℕ) (result : Result Survey Unsurveyed) : Type 0 where
  pub read : List ℕ
  pub reads : Reads before after read
  pub cause : IsSurvey before after limit left read kept result

-- A window more: the survey goes on with what is held, or it is over.
abbrev pub ComesTo : Told → Told → ℕ → ℕ → Feeding → List ℕ → Survey → Result Bool Unsurveyed → Type 0
ComesTo before told limit left feed kept s (Ok false) = Surveying before told limit left feed kept s
ComesTo before told limit left feed kept s (Ok true) = SurveysSource before told limit left kept (Ok s)
ComesTo before told limit left feed kept s (Err why) = SurveysSource before told limit left kept (Err why)
