use Rattle.std.proofs.Common.{◌≡◌, ℕ, ◌+◌, ◌≤◌, refl, arith}
use Rattle.jl_base.specs.Limits.{most_bytes}
use Rattle.jl_scan.proofs.FieldLemmas.{through_few}
use Rattle.jl_wave.proofs.WaveLemmas.{is_field}
use Rattle.jl_wave.proofs.going.go_to.Goals as goal

pub know-requires-clause-room : goal.know-requires-clause-room
know-requires-clause-room g c =
    let w = g.F.Scanned.field in
    let scan = c.args.scan.now in
    let few = through_few w c.args.run (is_field w scan.file scan.lo scan.field c.requires.file) in
    let steps = c.reach.ensures.steps in
    let small : most_bytes ≡ 1073741824 = refl in
    omega (arith, few, steps, small)
