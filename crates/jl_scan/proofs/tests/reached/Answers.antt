use Rattle.std.proofs.Common.{◌≡◌, refl, sym, subst, arith}
use Rattle.jl_base.specs.Limits.{most_bytes}
use Rattle.jl_scan.specs.Fields.{IsField}
use Rattle.jl_scan.proofs.tests.reached.Goals as goal

pub reach-requires-clause-room : goal.reach-requires-clause-room
reach-requires-clause-room g c =
    let scan = c.args.scan.now in
    let is = subst IsField (sym scan.field) (c.runs.ensures.fields scan.file scan.lo c.requires.file) in
    let few = c.frames.ensures.few g.F.Scanned.field c.args.to is in
    let small : most_bytes ≡ 1073741824 = refl in
    let steps = c.requires.steps in
    omega (arith, few, small, steps)
