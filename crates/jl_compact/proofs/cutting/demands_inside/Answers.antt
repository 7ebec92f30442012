use Rattle.std.proofs.Common.{sym, ◌∙◌}
use Rattle.jl_rows.specs.Seen.{options_seen}
use Rattle.jl_compact.proofs.Inside.{until_stays, until_never, until_end}
use Rattle.jl_compact.proofs.Lists.{empty_is}
use Rattle.jl_compact.proofs.cutting.demands_inside.Goals as goal

pub returns-then-not-may_be_met : goal.returns-then-not-may_be_met
returns-then-not-may_be_met c = λ bytes.
    until_never (options_seen bytes c.args.options.now) c.args.demands.now c.by_demand.inside.items c.push.new.self.items c.in-Some.demand.now c.in-Some.later.now c.by_demand.rest.now
    c.in-Some.ensures.cases.0 c.in_ok-push.ensures.items (sym (c.may_be_met.ensures bytes) ∙ c.if-not-may_be_met.true) (c.by_demand.invariant bytes)

pub by_demand-preserved : goal.by_demand-preserved
by_demand-preserved c = λ bytes.
    until_stays (options_seen bytes c.args.options.now) c.args.demands.now c.by_demand.inside.items c.push-in-Some.new.self.items c.in-Some.demand.now c.in-Some.later.now c.by_demand.rest.now
    c.in-Some.ensures.cases.0 c.in_ok-push-2.ensures.items (sym (c.may_be_met.ensures bytes) ∙ c.if-not-may_be_met.false) (c.by_demand.invariant bytes)

pub returns : goal.returns
returns c = λ bytes. until_end (options_seen bytes c.args.options.now) c.args.demands.now c.by_demand.inside.items c.by_demand.rest.now (empty_is c.by_demand.rest.now c.in_default.ensures.cases) (c.by_demand.invariant bytes)
