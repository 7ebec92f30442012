use Rattle.jl_spell.proofs.Writing.{iri_length}
use Rattle.jl_spell.proofs.message.iri_size.Goals as goal

pub returns-clause-exact : goal.returns-clause-exact
returns-clause-exact c = iri_length (record { prefix = c.args.prefix; name = c.args.name }) c.size_unless_0.result c.size_unless_0-2.result c.size_unless_0.ensures.exact c.size_unless_0-2.ensures.exact
