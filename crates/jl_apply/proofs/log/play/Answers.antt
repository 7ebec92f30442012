use Rattle.std.proofs.Common.{ap, ◌∙◌, ℕ}
use Rattle.jl_state.specs.Extents.{text_in}
use Rattle.jl_state.specs.Seen.{tables_seen}
use Rattle.jl_sym_laws.specs.Acting.{filled_in}
use Rattle.jl_sym_laws.specs.RelativeIds.{real}
use Rattle.jl_sym.specs.Seen.{id_seen}
use Rattle.jl_apply.proofs.Loops.{log_on, log_to, log_all, empty_is}
use Rattle.jl_apply.proofs.log.play.Goals as goal

pub returns-then-write-moment-clause-advances : goal.returns-then-write-moment-clause-advances
returns-then-write-moment-clause-advances c =
    log_to c.args.bytes.now c.args.incoming c.args.tables.now c.args.writes.now c.args.moment c.log.tables c.in-Some.write.now c.in-Some.later.now c.log.rest.now c.in-Some.ensures.cases.0 c.if-write-moment.true c.log.invariant

pub log-preserved : goal.log-preserved
log-preserved c =
    log_on c.args.bytes.now c.args.incoming c.args.tables.now c.args.writes.now c.args.moment c.log.tables c.fill.new.tables c.in-Some.write.now c.in-Some.later.now c.log.rest.now c.in-Some.ensures.cases.0 c.log.invariant c.if-write-moment.false
    (c.fill.ensures.exact
    ∙ ap (λ (n : ℕ). filled_in (tables_seen c.args.bytes.now c.log.tables) c.in-Some.write.now.table n (text_in c.args.bytes.now c.in-Some.write.now.text)) (c.real-id.ensures ∙ ap (real (id_seen c.in-Some.write.now.id)) c.entry.ensures))
    c.fill.ensures.kept

pub returns-clause-advances : goal.returns-clause-advances
returns-clause-advances c = log_all c.args.bytes.now c.args.incoming c.args.tables.now c.args.writes.now c.args.moment c.log.tables c.log.rest.now (empty_is c.log.rest.now c.in_default.ensures.cases) c.log.invariant
