use Rattle.std.proofs.Common.{◌+◌, ◌-◌, ◌<◌, ◌∙◌, arith}
use Rattle.jl_drive.proofs.WorkLemmas.{passed_by, below_more, last_drawn}
use Rattle.jl_drive.proofs.worker.run_worker.Goals as goal

pub draws-smaller : goal.draws-smaller
draws-smaller g c =
    let more = passed_by c.draws.passed c.in_ok-run.run' c.draws.seat.drawn c.draws.invariant.last c.in_ok-run.ensures.above in
    let runs = c.runs-runs.ensures in
    let n = g.W.Work.count c.args.work.now in
    let goes : n - (c.in_ok-run.run' + 1) < n - c.draws.passed = omega (arith, more, runs, c.if-run-runs.false) in
    goes

pub draws-preserved : goal.draws-preserved
draws-preserved g c =
    let E = c.in_ok-run.ensures in
    let I = c.draws.invariant in
    let runs = c.runs-runs.ensures in
    record {
      passed = omega (arith, runs, c.if-run-runs.false);
      board = E.board ∙ I.board;
      bound = E.bound ∙ I.bound;
      seats = E.seats ∙ I.seats;
      room = E.room ∙ I.room;
      below = below_more c.draws.seat.drawn c.turn.new.seat.drawn c.in_ok-run.run' E.drew E.above;
      last = λ x same. last_drawn c.draws.seat.drawn c.turn.new.seat.drawn c.in_ok-run.run' x E.drew same;
      fits = E.fits;
      worked = E.worked;
      mine = E.mine;
    }
