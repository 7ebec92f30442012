use Rattle.std.proofs.Common.{◌≡◌, ◌≤◌, take, length}
use Rattle.jl_encoding.specs.Splits.{prefix_len}
use Rattle.jl_encode.proofs.split.size.Given as goal

abbrev pub invariant-bytes : goal.invariant-bytes
invariant-bytes l = record { within : l.len ≤ length l.text; rest : prefix_len l.text ≡ prefix_len (take l.len l.text) }

abbrev pub decreases-bytes : goal.decreases-bytes
decreases-bytes l = l.len
