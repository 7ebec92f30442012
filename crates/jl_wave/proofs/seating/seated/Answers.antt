use Rattle.std.proofs.Common.{◌≡◌, ◌+◌, All, sym, subst, arith}
use Rattle.std.proofs.lemmas.List.Elements.{All-push}
use Rattle.jl_scan.specs.Fields.{seen}
use Rattle.jl_wave.specs.Benches.{IsBench}
use Rattle.jl_wave.proofs.seating.seated.Goals as goal

pub loop-next-preserved : goal.loop-next-preserved
loop-next-preserved g c =
    let w = g.F.Scanned.field in
    let scan = c.args.scan.now in
    let P = IsBench w (seen w c.args.from.now) scan.runs scan.cells in
    let I = c.loop-next.invariant in
    let fewer = c.in-Some.ensures.cases in
    let more = c.in_ok-push.ensures.len in
    let count = I.count in
    record {
      count = omega (arith, fewer, more, count);
      each = subst (λ xs. All P xs) (sym c.in_ok-push.ensures.items) (All-push P c.loop-next.benches.items _ I.each c.in_ok-seat.ensures);
    }
