use Rattle.std.proofs.Common.{sym}
use Rattle.jl_scan.specs.Fields.{seen}
use Rattle.jl_wave.proofs.WaveLemmas.{is_field, all_alive}
use Rattle.jl_wave.proofs.driving.go_on.Goals as goal

pub unreachable-requires : goal.unreachable-requires
unreachable-requires g c =
    let w = g.F.Scanned.field in
    let scan = c.args.scan.now in
    let dead = rw c.if-not-branch.true at c.in_ok-reach.ensures.there in
    all_alive w (is_field w scan.file scan.lo scan.field c.requires.file) (seen w c.args.state.now) scan.runs c.args.fault (sym c.if-is_some.ensures) c.requires.ran dead
