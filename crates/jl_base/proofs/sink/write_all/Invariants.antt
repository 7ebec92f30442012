use Rattle.std.proofs.Common.{ℕ, List, ◌≡◌, ◌++◌, length}
use Rattle.jl_base.specs.Sinks.{Adds}
use Rattle.jl_base.proofs.sink.write_all.Given as goal

-- what was done so far, and the rest of the piece
abbrev pub invariant-loop-rest : goal.invariant-loop-rest
invariant-loop-rest g l =
    let held = g.K.Sink.held in
    record {
      done : List ℕ;
      split : l.piece ≡ done ++ l.rest;
      adds : Adds (held l.fn.sink) (held l.sink) done;
      steady : g.K.Sink.faults l.sink ≡ g.K.Sink.faults l.fn.sink;
    }

abbrev pub decreases-loop-rest : goal.decreases-loop-rest
decreases-loop-rest g l = length l.rest
