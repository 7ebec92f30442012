use Rattle.std.proofs.Common.{◌≡◌, ◌+◌, ◌≤◌, true, false, is_some, sym, ap, ◌∙◌, arith}
use Rattle.jl_nqread.specs.declared.line_shape.Shape.{Shape}
use Rattle.jl_nqscan.specs.declared.line_scan.LineScan.{LineScan}
use Rattle.jl_nqscan.specs.Scanning.{one_line, then_told}
use Rattle.jl_nqscan.proofs.Adding.{then_few}
use Rattle.jl_nqscan.proofs.Going.{Going, line_at, going_step, going_stop, going_end}
use Rattle.jl_nqscan.proofs.piece.scan_piece.Goals as goal

pub returns-then-is_some : goal.returns-then-is_some
returns-then-is_some c =
    let line = line_at c.args.piece.now c.lines.at c.line_end-end.result c.lines.feeds in
    let shaped = c.one_line-line.ensures.exact ∙ ap (λ (q : Shape). one_line q (c.lines.feeds + 1)) c.shape.ensures in
    let total : c.then_told-scan.result ≡ then_told c.lines.scan line = c.then_told-scan.ensures ∙ ap (then_told c.lines.scan) shaped in
    let bad : is_some (then_told c.lines.scan line).bad ≡ true = ap (λ (s : LineScan). is_some s.bad) (sym total) ∙ sym c.is_some.ensures ∙ c.if-is_some.true in
    rw total (going_stop c.args.piece.now c.lines.at c.line_end-end.result c.lines.feeds c.lines.scan c.lines.invariant.0 c.line_end-end.ensures.stretch c.line_end-end.ensures.ends
    c.lines-test.true c.lines.invariant.1 c.lines.invariant.3 bad)

pub lines-preserved : goal.lines-preserved
lines-preserved c =
    let line = line_at c.args.piece.now c.lines.at c.line_end-end.result c.lines.feeds in
    let shaped = c.one_line-line.ensures.exact ∙ ap (λ (q : Shape). one_line q (c.lines.feeds + 1)) c.shape.ensures in
    let total : c.then_told-scan.result ≡ then_told c.lines.scan line = c.then_told-scan.ensures ∙ ap (then_told c.lines.scan) shaped in
    let good : is_some (then_told c.lines.scan line).bad ≡ false = ap (λ (s : LineScan). is_some s.bad) (sym total) ∙ sym c.is_some.ensures ∙ c.if-is_some.false in
    let going : Going c.args.piece.now (c.line_end-end.result + 1) (c.lines.feeds + c.feed-feeds.result) c.then_told-scan.result =
    rw (total, c.feed-feeds.ensures.exact) (going_step c.args.piece.now c.lines.at c.line_end-end.result c.lines.feeds c.lines.scan c.lines.invariant.0
    c.line_end-end.ensures.stretch c.line_end-end.ensures.ends good) in
    let sum : c.then_told-scan.result.statements ≤ c.lines.scan.statements + c.one_line-line.result.statements =
    rw c.then_told-scan.ensures (then_few c.lines.scan c.one_line-line.result) in
    let one = c.one_line-line.ensures.few in
    let few = c.feed-feeds.ensures.few in
    let inside = c.lines-test.true in
    let order = c.line_end-end.ensures.order in
    let feeds = c.lines.invariant.1 in
    let statements = c.lines.invariant.3 in
    (going, omega (arith, feeds, few, order), omega (arith, feeds, few, inside), omega (arith, statements, sum, one, order), omega (arith, statements, sum, one, inside))

pub returns : goal.returns
returns c = going_end c.args.piece.now c.lines.at c.lines.feeds c.lines.scan c.lines.invariant.0 (omega (arith, c.lines-test.false)) c.lines.invariant.2 c.lines.invariant.4
