use Rattle.jl_sym.proofs.asker.Asker.stands_strictly.Goals as goal

pub returns : goal.returns
returns c = c.stands_strictly.ensures c.args.self.now.here.now.bytes.now
