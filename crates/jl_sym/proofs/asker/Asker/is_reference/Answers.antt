use Rattle.jl_sym.proofs.asker.Asker.is_reference.Goals as goal

pub returns : goal.returns
returns c = c.is_reference_in.ensures c.args.self.now.here.now.bytes.now
