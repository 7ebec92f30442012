use Rattle.std.proofs.Common.{ℕ, sym}
use Rattle.jl_scan.specs.Fields.{seen}
use Rattle.jl_wave.proofs.WaveLemmas.{is_field, dead_now, dead_skips, way_kept}
use Rattle.jl_wave.proofs.wave.WaveWork.work.Goals as goal

pub returns-then-is_dead-clause-made : goal.returns-then-is_dead-clause-made
returns-then-is_dead-clause-made g c =
    let w = g.F.Scanned.field in
    let wave = c.args.self.now in
    let scan = wave.scan.now in
    let is = is_field w scan.file scan.lo scan.field c.requires.fits.0 in
    let start = seen w wave.from.now in
    dead_skips w is start c.args.run (dead_now w is start scan.runs c.args.run c.args.own.now.dead (sym c.if-is_dead.ensures) c.requires.fits.2.dead)

pub returns-then-not-branch-clause-keeps : goal.returns-then-not-branch-clause-keeps
returns-then-not-branch-clause-keeps g c =
    let scan = c.args.self.now.scan.now in
    way_kept scan.runs c.args.own.now c.go_to.new.bench (λ i x known. c.go_to.ensures.kept i x (c.read_run.ensures.kept i x known))

pub returns-then-not-branch-clause-made : goal.returns-then-not-branch-clause-made
returns-then-not-branch-clause-made g c =
    let w = g.F.Scanned.field in
    let wave = c.args.self.now in
    let scan = wave.scan.now in
    let is = is_field w scan.file scan.lo scan.field c.requires.fits.0 in
    let dead = rw c.if-not-branch.true at c.in_ok-go_to.ensures.there in
    dead_skips w is (seen w wave.from.now) c.args.run dead
