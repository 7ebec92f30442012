use Rattle.std.proofs.Common.{refl}
use Rattle.jl_wave.proofs.WaveLemmas.{bench_fresh}
use Rattle.jl_wave.proofs.going.go_back.Goals as goal

pub returns-clause-bench : goal.returns-clause-bench
returns-clause-bench g c =
    let E = c.in_ok-refill.ensures in
    bench_fresh g.F.Scanned.field c.args.scan.now.runs c.args.scan.now.cells _ c.args.from.now c.requires.from c.requires.bench.pass refl refl E.seen E.lawful E.options
