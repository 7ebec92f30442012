use Rattle.std.proofs.Common.{ap, sym, ◌∙◌}
use Rattle.jl_sym_laws.specs.Acting.{act}
use Rattle.jl_sym.specs.Seen.{summary_seen}
use Rattle.jl_apply.proofs.acting.apply.Goals as goal

pub returns-in-Ok-clause-exact : goal.returns-in-Ok-clause-exact
returns-in-Ok-clause-exact c = ap (act (summary_seen c.args.bytes.now c.args.summary.now)) (sym (c.in_ok-after.ensures.seen c.args.bytes.now)) ∙ c.in-Ok.ensures.exact
