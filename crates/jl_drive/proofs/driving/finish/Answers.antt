use Rattle.std.proofs.Common.{◌≡◌, subst, arith}
use Rattle.jl_claim.specs.Numbers.{least_of}
use Rattle.jl_drive.proofs.WorkLemmas.{covered}
use Rattle.jl_drive.proofs.driving.finish.Goals as goal

pub in_order-requires-clause-covered : goal.in_order-requires-clause-covered
in_order-requires-clause-covered g c κs within k below =
    let w = c.args.work.now in
    let all = c.args.all in
    let runs = c.runs.ensures in
    let least = subst (λ b. c.close.result.1 ≡ least_of b all.seat.lowered) c.requires.all.bound c.close.ensures.least in
    covered
    (g.W.Work.makes w)
    (g.W.Work.fine w)
    (g.W.Work.faulty w)
    (g.W.Work.count w)
    all.seat.drawn
    all.seat.lowered
    all.seat.seen
    c.close.result.0
    c.close.result.1
    all.pieces.items
    c.requires.apart
    c.requires.all.worked
    c.close.ensures.drawn
    least
    c.close.ensures.seen
    c.requires.all.beyond
    k
    (omega (arith, runs, below))
