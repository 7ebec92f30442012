use Rattle.std.proofs.Common.{◌≡◌, ◌+◌, false, length}
use Rattle.jl_survey.specs.Windowed.{HasRoomFor, Surveying}
use Rattle.jl_survey.proofs.windows.survey_source.Given as goal

abbrev pub invariant-windows : goal.invariant-windows
invariant-windows g l = record {
  surveying : Surveying (g.S.Source.told l.fn.source) (g.S.Source.told l.source) l.fn.left l.left l.feed l.kept l.survey;
  going : l.feed.ended ≡ false;
  room : HasRoomFor (length l.feed.held) l.left l.survey;
}

abbrev pub decreases-windows : goal.decreases-windows
decreases-windows g l = length l.feed.held + l.left
