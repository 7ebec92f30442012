use Rattle.std.proofs.Common.{ℕ, ◌+◌, ap}
use Rattle.jl_survey.specs.Counting.{size_of}
use Rattle.jl_survey.proofs.WindowLaws.{window_few}
use Rattle.jl_survey.proofs.numbers.Survey.more.Goals as goal

pub returns-clause-few : goal.returns-clause-few
returns-clause-few c = window_few (size_of c.args.frames.now) c.args.self.now c.frames_in.new.self _ c.in_ok-frames_in.ensures.few c.frames_in.ensures.bytes
    (ap (λ (n : ℕ). record c.frames_in.new.self { bytes = c.frames_in.new.self.bytes + n }) c.bytes-2.ensures.exact)
