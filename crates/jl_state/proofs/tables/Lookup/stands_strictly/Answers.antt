use Rattle.jl_state.proofs.tables.Lookup.stands_strictly.Goals as goal

pub returns : goal.returns
returns c = c.stands_strictly.ensures c.args.self.now.bytes.now
