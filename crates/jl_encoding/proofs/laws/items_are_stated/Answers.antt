use Rattle.jl_encoding.proofs.ItemLaws.{items_stated, last_terms}
use Rattle.jl_encoding.proofs.laws.items_are_stated.Goals as goal

pub returns-clause-stated : goal.returns-clause-stated
returns-clause-stated c = items_stated

pub returns-clause-last_terms : goal.returns-clause-last_terms
returns-clause-last_terms c = last_terms
