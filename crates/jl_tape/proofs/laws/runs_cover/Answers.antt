use Rattle.jl_tape.proofs.RunLaws.{runs_cover}
use Rattle.jl_tape.proofs.laws.runs_cover.Goals as goal

pub returns : goal.returns
returns c = runs_cover
