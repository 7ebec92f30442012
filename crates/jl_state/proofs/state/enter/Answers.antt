use Rattle.std.proofs.Common.{arith}
use Rattle.jl_state.proofs.Slots.{entered_is}
use Rattle.jl_state.proofs.state.enter.Goals as goal

pub returns-clause-exact : goal.returns-clause-exact
returns-clause-exact c =
    let id = c.id_after-id.ensures in
    entered_is c.args.bytes.now c.args.slots.now.items c.id_after-id.result _ c.marked.result _ id (omega arith) c.marked.ensures.text c.marked.ensures.filled
