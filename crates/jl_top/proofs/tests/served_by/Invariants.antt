use Rattle.std.proofs.Common.{◌≡◌, vec_len}
use Rattle.jl_top.proofs.tests.served_by.Given as goal

abbrev pub invariant-loop : goal.invariant-loop
invariant-loop g l = vec_len l.sources ≡ l.index
