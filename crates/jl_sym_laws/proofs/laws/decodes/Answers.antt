use Rattle.jl_sym_laws.proofs.DecodeLaws.{decodes}
use Rattle.jl_sym_laws.proofs.RunLaws.{after_is_run}
use Rattle.jl_sym_laws.proofs.laws.decodes.Goals as goal

pub returns-clause-leads : goal.returns-clause-leads
returns-clause-leads c = decodes

pub returns-clause-run : goal.returns-clause-run
returns-clause-run c = after_is_run
