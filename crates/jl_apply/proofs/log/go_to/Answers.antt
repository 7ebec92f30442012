use Rattle.jl_apply.specs.Playing.{IsLate}
use Rattle.jl_sym.specs.Seen.{demands_seen}
use Rattle.jl_apply.proofs.Loops.{going_met, going_refused, going_end, late_at, late_none, empty_is}
use Rattle.jl_apply.proofs.log.go_to.Goals as goal
use Rattle.jl_apply.proofs.log.go_to.Goals.{in-Some+then-demand-moment, in_default}

pub returns-then-not-meets-clause-passes : goal.returns-then-not-meets-clause-passes
returns-then-not-meets-clause-passes c = λ s ws k inc a m le.
    going_refused c.args.bytes.now c.args.incoming c.args.tables.now c.args.rest.writes.now c.args.rest.demands.now c.args.moment c.demands.tables c.play-writes.new.tables c.demands.writes.now c.play-writes.result.now
    c.in-Some.demand.now c.in-Some.later.now c.demands.demands.now c.meets.result c.in-Some.ensures.cases.0 c.demands.invariant c.play-writes.ensures.advances (λ t here. c.meets.ensures t here) c.if-not-meets.true s ws k inc a m le

pub demands-preserved : goal.demands-preserved
demands-preserved c =
    going_met c.args.bytes.now c.args.incoming c.args.tables.now c.args.rest.writes.now c.args.rest.demands.now c.args.moment c.demands.tables c.play-writes.new.tables c.demands.writes.now c.play-writes.result.now
    c.in-Some.demand.now c.in-Some.later.now c.demands.demands.now c.meets.result c.in-Some.ensures.cases.0 c.demands.invariant c.if-demand-moment.false c.play-writes.ensures.advances c.play-writes.ensures.kept c.play-writes.ensures.held
    (λ t here. c.meets.ensures t here) c.if-not-meets.false

pub returns-clause-passes : goal.returns-clause-passes
returns-clause-passes c = λ s ws k inc a m le.
    let late : IsLate c.args.moment (demands_seen c.demands.demands.now) = elim c.match-split_first.branch [
      | in-Some+then-demand-moment w ↦
          late_at c.args.bytes.now c.args.incoming c.args.tables.now c.args.rest.writes.now c.args.rest.demands.now c.args.moment w.in-Some.demand.now w.in-Some.later.now c.demands.demands.now w.in-Some.ensures.cases.0 w.if-demand-moment.true
      | in_default w ↦
          late_none c.args.bytes.now c.args.incoming c.args.tables.now c.args.rest.writes.now c.args.rest.demands.now c.args.moment c.demands.demands.now (empty_is c.demands.demands.now w.in_default.ensures.cases)
    ] in
    going_end c.args.bytes.now c.args.incoming c.args.tables.now c.args.rest.writes.now c.args.rest.demands.now c.args.moment c.demands.tables c.play-writes-2.new.tables c.demands.writes.now c.play-writes-2.result.now c.demands.demands.now
    c.demands.invariant late c.play-writes-2.ensures.advances s ws k inc a m le
