use Rattle.std.proofs.Common.{◌+◌, List, [], ◌∷◌, refl, subst, arith}
use Rattle.jl_sym_laws.specs.Composing.{AreWithin}
use Rattle.jl_sym.specs.declared.demand.Demand.{Demand}
use Rattle.jl_sym.specs.Seen.{demands_seen, summary_seen}
use Rattle.jl_compose.proofs.Pushing.{demanded_none, demanded_some, demanded_all}
use Rattle.jl_compose.proofs.demands.push_demands.Goals as goal

pub overflow_add-first : goal.overflow_add-first
overflow_add-first c =
    let all : AreWithin c.args.rows (demands_seen (c.in-Some.demand.now ∷ c.in-Some.others.now)) = subst (λ (l : List Demand). AreWithin c.args.rows (demands_seen l)) c.in-Some.ensures.cases.0 (c.demands.invariant []).within in
    let within = all.0 in
    let few = c.requires.few in
    omega (arith, within, few)

pub demands-preserved : goal.demands-preserved
demands-preserved c bytes =
    let d = c.in-Some.demand.now in
    demanded_some (summary_seen bytes c.args.first.now) c.args.rows c.args.out.now.items c.args.demands.now c.demands.out.items c.push.new.self.items d c.in-Some.others.now c.demands.rest.now c.earlier.result c.in-Some-earlier.need
    (record { moment = c.args.first.now.rows + d.moment; fault = d.fault; need = c.in-Some-earlier.need })
    c.in-Some.ensures.cases.0 (c.demands.invariant bytes) (c.earlier.ensures bytes) c.in-Some-earlier.is c.in_ok-push.ensures.items refl

pub demands-preserved-in_default-earlier : goal.demands-preserved-in_default-earlier
demands-preserved-in_default-earlier c bytes =
    demanded_none (summary_seen bytes c.args.first.now) c.args.rows c.args.out.now.items c.args.demands.now c.demands.out.items c.in-Some.demand.now c.in-Some.others.now c.demands.rest.now c.earlier.result
    c.in-Some.ensures.cases.0 (c.demands.invariant bytes) (c.earlier.ensures bytes) c.in_default-earlier.is

pub returns : goal.returns
returns c bytes = demanded_all (summary_seen bytes c.args.first.now) c.args.rows c.args.out.now.items c.args.demands.now c.demands.out.items c.demands.rest.now c.in_default.ensures.cases (c.demands.invariant bytes)
