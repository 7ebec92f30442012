use Rattle.std.proofs.Common.{arith, take, ◌++◌}
use Rattle.jl_base.proofs.SinkLemmas.{Adds-append, split_more}
use Rattle.jl_base.proofs.sink.write_all.Goals as goal

pub loop-rest-preserved : goal.loop-rest-preserved
loop-rest-preserved g c =
    let n = c.in_ok-taken.taken in
    let rest = c.loop-rest.rest.now in
    record {
      done = c.loop-rest.invariant.done ++ take n rest;
      split = split_more _ c.loop-rest.invariant.done c.loop-rest.rest.now n c.loop-rest.invariant.split;
      adds = Adds-append _ _ _ _ _ c.loop-rest.invariant.adds c.in_ok-taken.ensures.adds;
      steady = omega (arith, c.in_ok-taken.ensures.cause.steady);
    }
