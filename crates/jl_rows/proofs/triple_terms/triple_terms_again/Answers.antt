use Rattle.jl_rows.proofs.Nesting.{reads_again}
use Rattle.jl_rows.proofs.triple_terms.triple_terms_again.Goals as goal

pub returns : goal.returns
returns c = reads_again
