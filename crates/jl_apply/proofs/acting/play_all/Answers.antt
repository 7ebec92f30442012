use Rattle.std.proofs.Common.{ℕ, ◌+◌, ◌<◌, ◌^◌, sym, subst, arith}
use Rattle.std.proofs.lemmas.Result.{err_from_is_err_and}
use Rattle.jl_apply.proofs.Stops.{Stops, stops_init, stops_next, stops_refused, stops_end}
use Rattle.jl_apply.proofs.acting.play_all.Goals as goal

pub stops-init : goal.stops-init
stops-init c =
    stops_init c.args.bytes.now c.args.incoming c.args.tables.now c.args.summary.now (record { writes = c.deref-2.result; demands = c.open-demands.result }) c.none-terms.result c.deref.result.now
    c.requires.made c.requires.held c.requires.tables c.deref-2.ensures.value c.deref.ensures.value c.open-demands.ensures.faults c.open-demands.ensures.made c.open-demands.ensures.within (c.none-terms.ensures c.args.bytes.now)

pub returns-in_err-rest-clause-plays : goal.returns-in_err-rest-clause-plays
returns-in_err-rest-clause-plays c = λ s inc same.
    let p = err_from_is_err_and c.from_residual.result c.from_residual.ensures.1 in
    let later = c.in-Some.ensures.from in
    rw (p.1, p.2)
    (stops_refused c.args.bytes.now c.args.incoming c.args.tables.now c.args.summary.now c.stops.tables c.stops.rest c.stops.from c.stops.terms c.stops.invariant c.in-Some.moment c.in_err-rest.field-0.0
    (λ n h k. omega (arith, h, later)) c.in_err-rest.ensures.passes s inc same)

pub stops-preserved : goal.stops-preserved
stops-preserved c =
    let small : c.in-Some.moment < 2 ^ 32 = omega arith in
    subst (λ (n : ℕ). Stops c.args.bytes.now c.args.incoming c.args.tables.now c.args.summary.now c.go_to.new.tables c.in_ok-rest.rest (n + 1) c.read_at.new.self) (sym c.from-from.ensures)
    (stops_next c.args.bytes.now c.args.incoming c.args.tables.now c.args.summary.now c.stops.tables c.stops.rest c.stops.from c.stops.terms c.stops.invariant c.in-Some.moment c.go_to.new.tables c.in_ok-rest.rest c.read_at.new.self
    c.in-Some.ensures.from (c.in-Some.ensures.within c.args.bytes.now c.requires.made) small c.in_ok-rest.ensures.passes c.in_ok-read_at.ensures.read (c.in-Some.ensures.stop c.args.bytes.now)
    c.in_ok-rest.ensures.rises c.in_ok-rest.ensures.held c.go_to.ensures.kept c.in_ok-read_at.ensures.has)

pub returns-in_err-go_to-clause-plays : goal.returns-in_err-go_to-clause-plays
returns-in_err-go_to-clause-plays c = λ s inc same.
    let p = err_from_is_err_and c.from_residual-in_err-go_to.result c.from_residual-in_err-go_to.ensures.1 in
    rw (p.1, p.2)
    (stops_refused c.args.bytes.now c.args.incoming c.args.tables.now c.args.summary.now c.stops.tables c.stops.rest c.stops.from c.stops.terms c.stops.invariant c.args.summary.now.rows c.in_err-go_to.field-0.0
    (λ n h k. k) c.in_err-go_to.ensures.passes s inc same)

pub returns-clause-plays : goal.returns-clause-plays
returns-clause-plays c =
    stops_end c.args.bytes.now c.args.incoming c.args.tables.now c.args.summary.now c.stops.tables c.stops.rest c.stops.from c.stops.terms c.stops.invariant c.go_to-2.new.tables c.in_ok-go_to.field-0
    c.in_ok-go_to.ensures.passes (c.in_default.ensures.stop c.args.bytes.now)
