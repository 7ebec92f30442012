use Rattle.std.proofs.Common.{ℕ, IfOk, subst}
use Rattle.jl_drive.specs.Pieces.{IsDriven}
use Rattle.jl_drive.proofs.driving.drive.Goals as goal

pub returns : goal.returns
returns g c =
    let w = c.args.work.now in
    subst
    (λ (k : ℕ). IfOk c.finish.result (λ d. IsDriven (g.W.Work.fits w) (g.W.Work.knows w) (g.W.Work.makes w) (g.W.Work.fine w) (g.W.Work.faulty w) (g.W.Work.count w) k d.owns.items d.pieces.items d.fault))
    c.len-workers.ensures
    c.finish.ensures
