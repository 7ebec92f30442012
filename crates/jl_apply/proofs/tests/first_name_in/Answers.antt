use Rattle.jl_state.proofs.NestedTerms.{parts_of}
use Rattle.jl_apply.proofs.tests.first_name_in.Goals as goal

pub name_in-requires : goal.name_in-requires
name_in-requires c = (parts_of c.args.rows.now c.args.term.now c.in-Triple.three c.get.result.now c.in-Triple.is c.get.ensures).s.has c.requires
