use Rattle.jl_apply.proofs.Loops.{opening_met}
use Rattle.jl_apply.proofs.log.open.Goals as goal

pub demands-preserved : goal.demands-preserved
demands-preserved c =
    opening_met c.args.lookup.now.bytes.now c.args.incoming c.args.lookup.now.tables.now c.args.demands.now c.in-Some.later.now c.demands.rest.now c.in-Some.demand.now c.meets.result c.in-Some.ensures.cases.0 c.demands.invariant
    (λ s inc. c.meets.ensures s inc) c.if-not-meets.false
