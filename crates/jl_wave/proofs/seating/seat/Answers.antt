use Rattle.std.proofs.Common.{ℕ, ap, refl}
use Rattle.jl_cells.specs.Knowledge.{Knowledge}
use Rattle.jl_wave.proofs.WaveLemmas.{bench_fresh}
use Rattle.jl_wave.proofs.seating.seat.Goals as goal

pub returns : goal.returns
returns g c =
    let E = c.in_ok-refill.ensures in
    bench_fresh g.F.Scanned.field c.args.scan.now.runs c.args.scan.now.cells _ c.args.from.now c.requires.from (ap (λ (k : Knowledge (ℕ × ℕ)). k.cells) c.in_ok-pass.ensures) refl refl E.seen E.lawful E.options
