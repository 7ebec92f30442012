use Rattle.jl_scan.proofs.CellLemmas.{walk_goes, walk_is_short}
use Rattle.jl_scan.proofs.laws.walks.Goals as goal

pub returns-clause-goes : goal.returns-clause-goes
returns-clause-goes c = walk_goes

pub returns-clause-short : goal.returns-clause-short
returns-clause-short c = walk_is_short
