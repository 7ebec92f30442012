use Rattle.jl_made.proofs.made.Made.remake.Goals as goal

pub invariant_of-self : goal.invariant_of-self
invariant_of-self c = record { grouped = let there = c.no_item.ensures c.args.self.now.number c.args.self.now.group in let moved = c.replace-item.ensures.after in rw moved there }
