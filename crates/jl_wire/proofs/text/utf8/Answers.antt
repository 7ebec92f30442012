use Rattle.std.proofs.Common.{sym, arith}
use Rattle.jl_wire.proofs.Texts.{run_is_utf8}
use Rattle.jl_wire.proofs.text.utf8.Goals as goal

pub returns-then-ascii_run-len-clause-exact : goal.returns-then-ascii_run-len-clause-exact
returns-then-ascii_run-len-clause-exact c =
    sym (run_is_utf8 _ _ _ (omega arith) c.if-len-le16.true (omega (arith, c.ascii_run.ensures)))
