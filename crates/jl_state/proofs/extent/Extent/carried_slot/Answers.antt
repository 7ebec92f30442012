use Rattle.jl_state.proofs.Carrying.{slot_so}
use Rattle.jl_state.proofs.extent.Extent.carried_slot.Goals as goal

pub returns-clause-carries : goal.returns-clause-carries
returns-clause-carries c =
    let filled = c.is_filled.ensures.0 c.if-not-is_filled.false in
    slot_so c.args.from.now c.carried.new.into c.args.self c.carried.result c.carried.ensures.carries (c.requires filled)
