use Rattle.std.proofs.Common.{◌+◌, ap, refl, ◌∙◌}
use Rattle.jl_state.specs.Extents.{text_in}
use Rattle.jl_sym_laws.specs.RelativeIds as ids
use Rattle.jl_sym_laws.specs.Summaries as sums
use Rattle.jl_sym.specs.Seen.{id_seen, summary_seen}
use Rattle.jl_compose.specs.Narrowing.{narrow}
use Rattle.jl_compose.proofs.Pushing.{pushed_on, pushed_all}
use Rattle.jl_compose.proofs.writes.push_writes.Goals as goal

pub writes-preserved : goal.writes-preserved
writes-preserved c =
    let w = c.in-Some.write.now in
    pushed_on c.args.bytes.now (summary_seen c.args.bytes.now c.args.first.now) c.args.rows c.args.out.now.items c.args.writes.now c.writes.out.items c.push.new.self.items w
    (record { moment = c.args.first.now.rows + w.moment; table = w.table; id = c.later_id.result; text = w.text }) c.in-Some.others.now c.writes.rest.now c.in-Some.ensures.cases.0 c.writes.invariant
    (ap (λ (i : ids.Id). let x : sums.Written = record { moment = c.args.first.now.rows + w.moment; table = w.table; id = i; text = text_in c.args.bytes.now w.text } in x)
    (c.later_id.ensures ∙ ap (λ (first : ids.Id). narrow (ids.following first (id_seen w.id))) (c.entry_of.ensures c.args.bytes.now)))
    refl c.in_ok-push.ensures.items

pub returns-clause-seen : goal.returns-clause-seen
returns-clause-seen c = pushed_all c.args.bytes.now (summary_seen c.args.bytes.now c.args.first.now) c.args.rows c.args.out.now.items c.args.writes.now c.writes.out.items c.writes.rest.now c.in_default.ensures.cases c.writes.invariant

pub returns-clause-held : goal.returns-clause-held
returns-clause-held c h k = (c.writes.invariant.held h k).0
