use Rattle.std.proofs.Common.{◌≡◌, vec_len}
use Rattle.jl_items.proofs.workers.workers_of.Given as goal

abbrev pub invariant-loop-i : goal.invariant-loop-i
invariant-loop-i l = vec_len l.kept ≡ l._i
