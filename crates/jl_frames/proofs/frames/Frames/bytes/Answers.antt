use Rattle.std.proofs.Common.{◌≡◌, ◌+◌, ◌-◌, length, ap, arith}
use Rattle.jl_frames.specs.Index.{Index}
use Rattle.jl_frames.proofs.WalkLemmas.{bytes_some}
use Rattle.jl_frames.proofs.frames.Frames.bytes.Goals as goal

pub returns : goal.returns
returns c =
    let body = c.end.ensures in
    let before = c.count-count.result - 1 in
    let size : length c.args.self.now.bodies ≡ before + 1 = omega (arith, c.count-count.ensures.exact, c.if-count-eq0.false) in
    let lo = ap (λ (x : Index). x.lo) c.self.view_is in
    record { exact = omega (arith, c.saturating_sub.ensures, body.2, lo, bytes_some c.args.self.now before body.0 body.1 size) }
