use Rattle.std.proofs.Common.{◌≡◌, ◌-◌, ◌<◌, min, length, arith}
use Rattle.jl_frames.proofs.RunLemmas.{one_more}
use Rattle.jl_frames.proofs.plan.Plan.cut.Goals as goal

pub by_run-preserved : goal.by_run-preserved
by_run-preserved c =
    let last = c.end-hi.ensures in
    let below : c.by_run.before < length c.args.frames.now.bodies = omega (arith, c.by_run-test.true, c.count-count.ensures.exact) in
    let least : c.min-n.result ≡ min c.args.per (length c.args.frames.now.bodies - c.by_run.before) = omega (arith, c.min-n.ensures, c.from.ensures, c.count-count.ensures.exact) in
    rw (c.in_ok-push.ensures.items, last.2, c.first.ensures.exact)
    (one_more c.args.frames.now c.args.per c.by_run.runs.items c.by_run.before c.by_run.lo c.requires c.by_run.invariant below c.min-n.result least last.0 last.1)
