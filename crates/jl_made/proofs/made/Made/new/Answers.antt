use Rattle.jl_made.proofs.made.Made.new.Goals as goal

pub invariant_of-result : goal.invariant_of-result
invariant_of-result c = record { grouped = c.no_item.ensures c.args.number 0 }
