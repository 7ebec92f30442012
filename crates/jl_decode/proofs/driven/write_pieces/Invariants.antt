use Rattle.std.proofs.Common.{◌≡◌, ℕ, List, ◌++◌, length}
use Rattle.jl_base.specs.Sinks.{Adds}
use Rattle.jl_decode.specs.Pieces.{lines_of}
use Rattle.jl_decode.proofs.driven.write_pieces.Given as goal

-- what was given so far
abbrev pub invariant-by_piece : goal.invariant-by_piece
invariant-by_piece g l = record {
  given : List ℕ;
  adds : Adds (g.K.Sink.held l.fn.out) (g.K.Sink.held l.out) given;
  steady : g.K.Sink.faults l.out ≡ g.K.Sink.faults l.fn.out;
  lines : lines_of l.fn.pieces ≡ given ++ lines_of l.left;
}

abbrev pub decreases-by_piece : goal.decreases-by_piece
decreases-by_piece g l = length l.left
