use Rattle.std.proofs.Common.{ap, length, ◌∙◌}
use Rattle.jl_rows.proofs.Carrying.{grows_same}
use Rattle.jl_state.proofs.Carrying.{cut_back}
use Rattle.jl_state.proofs.state.State.carry.Goals as goal

pub returns-in-Err-clause-refused : goal.returns-in-Err-clause-refused
returns-in-Err-clause-refused c = c.cut.ensures ∙ cut_back c.args.into.now c.carried.new.into _ (ap length c.bytes-len.ensures.all) c.carried.ensures.grows

pub returns-in-Err-clause-grows : goal.returns-in-Err-clause-grows
returns-in-Err-clause-grows c = rw (c.cut.ensures ∙ cut_back c.args.into.now c.carried.new.into _ (ap length c.bytes-len.ensures.all) c.carried.ensures.grows) (grows_same c.args.into.now)
