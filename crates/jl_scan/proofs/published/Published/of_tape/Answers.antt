use Rattle.std.proofs.Common.{subst, arith}
use Rattle.jl_scan.specs.Fields.{Field, HoldsRun}
use Rattle.jl_scan.proofs.published.Published.of_tape.Goals as goal

pub of_tape-requires-clause-run : goal.of_tape-requires-clause-run
of_tape-requires-clause-run g c = (g.F.Scanned.field.lo, c.args.k, subst (λ (w : Field). HoldsRun w c.args.k c.args.tape.now c.args.fault) c.requires.field c.requires.tape)

pub overflow_add-result : goal.overflow_add-result
overflow_add-result g c = let within = c.requires.within in let all = c.runs-runs.ensures in omega (arith, within, all)
