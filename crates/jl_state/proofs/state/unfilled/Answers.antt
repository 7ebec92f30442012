use Rattle.std.proofs.lemmas.Result.{IfOk-weaker}
use Rattle.jl_state.proofs.Slots.{unfilled_is}
use Rattle.jl_state.proofs.state.unfilled.Goals as goal

pub returns : goal.returns
returns c = IfOk-weaker c.vec.result _ _ (λ v h. unfilled_is c.args.size v.items (h (λ y e. e))) c.vec.ensures.items_if_clones_equal
