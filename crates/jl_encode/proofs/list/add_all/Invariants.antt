use Rattle.std.proofs.Common.{length}
use Rattle.jl_encode.specs.Encoders.{progress}
use Rattle.jl_encode.proofs.ListLemmas.{AreAdded}
use Rattle.jl_encode.proofs.list.add_all.Given as goal

abbrev pub invariant-items : goal.invariant-items
invariant-items g l = AreAdded (progress l.fn.encoder) (progress l.encoder) l.fn.items l.rest (g.K.Sink.held l.fn.sink) (g.K.Sink.held l.sink) (g.K.Sink.faults l.fn.sink) (g.K.Sink.faults l.sink)

abbrev pub decreases-items : goal.decreases-items
decreases-items g l = length l.rest
