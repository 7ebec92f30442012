use Rattle.jl_sym.proofs.SumLemmas.{has_at}
use Rattle.try_summaries.proofs.check.step_all.Goals as goal

pub step-requires-clause-inside : goal.step-requires-clause-inside
step-requires-clause-inside c = has_at c.args.given.now.bytes.now c.args.tape.now c.loop-i.i c.at-placed.result.now c.at-placed.ensures c.requires.rows
