use Rattle.jl_spell.proofs.Writing.{text_length}
use Rattle.jl_spell.proofs.message.size_unless_empty.Goals as goal

pub returns-clause-exact : goal.returns-clause-exact
returns-clause-exact c = text_length c.args.field c.args.text.now c.front_size.result c.if-is_empty.ensures c.front_size.ensures.exact
