use Rattle.std.proofs.Common.{length, refl}
use Rattle.jl_sym.specs.Seen.{demands_seen}
use Rattle.jl_compact.proofs.DemandPass.{front_goes, front_stays, front_first, front_last}
use Rattle.jl_compact.proofs.Lists.{empty_is}
use Rattle.jl_compact.proofs.demands.keep.Goals as goal

pub by_demand-init : goal.by_demand-init
by_demand-init c = front_first (length c.args.asked.now) (demands_seen c.args.demands.now) c.args.kept.now.items c.args.asked.now c.requires.none c.requires.room refl c.requires.fresh

pub by_demand-preserved : goal.by_demand-preserved
by_demand-preserved c =
    front_stays (length c.args.asked.now) (demands_seen c.args.demands.now) c.by_demand.kept.items c.push.new.self.items c.in-Some.demand.now c.in-Some.later.now c.by_demand.rest.now c.by_demand.asked c.place_of-at.result
    c.in-Some.ensures.cases.0 c.place_of-at.ensures.exact c.in_ok-push.ensures.items c.by_demand.invariant c.if-asked-at.false

pub by_demand-preserved-then-asked-at : goal.by_demand-preserved-then-asked-at
by_demand-preserved-then-asked-at c =
    front_goes (length c.args.asked.now) (demands_seen c.args.demands.now) c.by_demand.kept.items c.in-Some.demand.now c.in-Some.later.now c.by_demand.rest.now c.by_demand.asked c.place_of-at.result
    c.in-Some.ensures.cases.0 c.place_of-at.ensures.exact c.by_demand.invariant c.if-asked-at.true

pub returns : goal.returns
returns c = front_last (length c.args.asked.now) (demands_seen c.args.demands.now) c.by_demand.kept.items c.by_demand.rest.now c.by_demand.asked (empty_is c.by_demand.rest.now c.in_default.ensures.cases) c.by_demand.invariant
