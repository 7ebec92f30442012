use Rattle.jl_scan.proofs.FieldLemmas.{through_few, through_is}
use Rattle.jl_scan.proofs.laws.frames.Goals as goal

pub returns-clause-add : goal.returns-clause-add
returns-clause-add c = through_is

pub returns-clause-few : goal.returns-clause-few
returns-clause-few c = through_few
