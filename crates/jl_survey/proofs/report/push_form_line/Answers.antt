use Rattle.std.proofs.Common.{ℕ, List, ◌++◌, ◌∙◌, ap}
use Rattle.jl_survey.specs.Reports.{form_line}
use Rattle.jl_survey.proofs.Appending.{nine_appended}
use Rattle.jl_survey.proofs.report.push_form_line.Goals as goal

pub returns : goal.returns
unfolding form_line
returns c =
    nine_appended _ _ _ _ _ _ _ _ _ _ _ _ _ _ _ _ _ _ _ c.in_ok-extend_from_slice.ensures.items
    (c.in_ok-extend_from_slice-2.ensures.items ∙ ap (λ (l : List ℕ). c.extend_from_slice.new.self.items ++ l) c.physical_type.ensures)
    c.in_ok-push_value.ensures c.in_ok-push_value-2.ensures c.in_ok-extend_from_slice-3.ensures.items
    (c.in_ok-extend_from_slice-4.ensures.items ∙ ap (λ (l : List ℕ). c.extend_from_slice-3.new.self.items ++ l) c.flag.ensures)
    c.in_ok-extend_from_slice-5.ensures.items
    (c.in_ok-extend_from_slice-6.ensures.items ∙ ap (λ (l : List ℕ). c.extend_from_slice-5.new.self.items ++ l) c.flag-2.ensures)
    c.in_ok-push.ensures.items
