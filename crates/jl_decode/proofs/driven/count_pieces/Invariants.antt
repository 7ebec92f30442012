use Rattle.std.proofs.Common.{◌≡◌, length}
use Rattle.jl_decode.specs.Pieces.{counts_with}
use Rattle.jl_decode.proofs.driven.count_pieces.Given as goal

abbrev pub invariant-to_count : goal.invariant-to_count
invariant-to_count l = counts_with l.fn.counts l.fn.pieces ≡ counts_with l.all l.left

abbrev pub decreases-to_count : goal.decreases-to_count
decreases-to_count l = length l.left
