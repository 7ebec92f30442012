use Rattle.std.proofs.Common.{◌∙◌, ℕ, ap}
use Rattle.jl_sym_laws.specs.Cutting.{is_id_in}
use Rattle.jl_sym.specs.Seen.{id_seen}
use Rattle.jl_sym.proofs.asker.Asker.is_entry.Goals as goal

pub returns : goal.returns
returns c = c.is_in.ensures ∙ ap (λ (n : ℕ). is_id_in n (id_seen c.args.id)) (c.size_of.ensures c.args.self.now.here.now.bytes.now)
