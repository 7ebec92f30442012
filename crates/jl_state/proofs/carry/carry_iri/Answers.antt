use Rattle.jl_rows.proofs.Carrying.{grows_then}
use Rattle.jl_state.specs.Extents.{text_in}
use Rattle.jl_state.proofs.Carrying.{iri_carried, two_after}
use Rattle.jl_state.proofs.carry.carry_iri.Goals as goal

pub returns-in_err-name-clause-grows : goal.returns-in_err-name-clause-grows
returns-in_err-name-clause-grows c = grows_then c.args.into.now c.carried.new.into c.carried-2.new.into c.carried.ensures.grows c.carried-2.ensures.grows

pub returns-clause-carries : goal.returns-clause-carries
returns-clause-carries c =
    iri_carried c.args.from.now c.carried.new.into c.carried-2.new.into c.carried-2.ensures.grows c.args.prefix c.in_ok-prefix.prefix c.args.name c.in_ok-name.name c.requires.prefix c.requires.name c.in_ok-prefix.ensures.carries c.in_ok-name.ensures.carries

pub returns-clause-grows : goal.returns-clause-grows
returns-clause-grows c = grows_then c.args.into.now c.carried.new.into c.carried-2.new.into c.carried.ensures.grows c.carried-2.ensures.grows

pub returns-clause-after : goal.returns-clause-after
returns-clause-after c = two_after c.args.into.now c.carried.new.into c.carried-2.new.into (text_in c.args.from.now c.args.prefix) (text_in c.args.from.now c.args.name) c.in_ok-prefix.ensures.after c.in_ok-name.ensures.after
