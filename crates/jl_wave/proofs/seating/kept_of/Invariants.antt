use Rattle.std.proofs.Common.{◌≡◌, ◌+◌, vec_len}
use Rattle.jl_wave.proofs.seating.kept_of.Given as goal

abbrev pub decreases-loop-next : goal.decreases-loop-next
decreases-loop-next g l = vec_len l.benches

abbrev pub invariant-loop-next : goal.invariant-loop-next
invariant-loop-next g l = vec_len l.kept + vec_len l.benches ≡ vec_len l.fn.benches
