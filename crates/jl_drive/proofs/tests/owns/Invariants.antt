use Rattle.std.proofs.Common.{◌≡◌, vec_len}
use Rattle.jl_drive.proofs.tests.owns.Given as goal

abbrev pub invariant-loop : goal.invariant-loop
invariant-loop l = vec_len l.owns ≡ l.counter
