use Rattle.std.proofs.Common.{◌≡◌, ℕ, ◌+◌, ◌-◌, None, Some, length, sym, ap, arith}
use Rattle.jl_tape.specs.Runs.{run_rows}
use Rattle.jl_frames.proofs.Stretches.{body_of, laid_count}
use Rattle.jl_tape.proofs.Stretches.{few_in_run, few_next, run_next}
use Rattle.jl_tape.proofs.read.read_run.Goals as goal

pub overflow_add-i-end : goal.overflow_add-i-end
overflow_add-i-end c =
    let index = c.args.frames.now in
    let count = laid_count index.lo index.bodies c.requires.laid.0 c.requires.laid.1 in
    omega (arith, count, c.requires.laid.2, c.requires.run.end, c.first-first.ensures.exact)

pub overflow_add-end : goal.overflow_add-end
overflow_add-end c =
    let index = c.args.frames.now in
    let is = body_of index.lo index.bodies c.requires.laid.0 c.loop-i.i c.frame-body.result c.requires.laid.1 c.frame-body.ensures in
    let within = is.within in
    omega (arith, within, c.requires.laid.2)

pub overflow_add-first : goal.overflow_add-first
overflow_add-first c =
    let index = c.args.frames.now in
    let count = laid_count index.lo index.bodies c.requires.laid.0 c.requires.laid.1 in
    let below = c.loop-i-test.true in
    omega (arith, below, count, c.requires.laid.2, c.requires.run.end, c.first-first.ensures.exact, c.first-first.ensures.few)

pub read_frame-requires-clause-inside : goal.read_frame-requires-clause-inside
read_frame-requires-clause-inside c =
    let index = c.args.frames.now in
    let is = body_of index.lo index.bodies c.requires.laid.0 c.loop-i.i c.frame-body.result c.requires.laid.1 c.frame-body.ensures in
    let within = is.within in
    omega (arith, within, c.requires.laid.2)

pub returns-in_err-fault-clause-few : goal.returns-in_err-fault-clause-few
returns-in_err-fault-clause-few c =
    let index = c.args.frames.now in
    few_in_run index c.args.run c.requires.laid.0 c.first-first.result c.loop-i.i (length c.loop-i.tape) (length c.read_frame.new.tape) c.frame-body.result c.first-first.ensures.exact c.requires.laid.1 c.frame-body.ensures
    c.loop-i-test.true c.loop-i.invariant.few c.read_frame.ensures.few

pub returns-in-Some-clause-read : goal.returns-in-Some-clause-read
returns-in-Some-clause-read c =
    let index = c.args.frames.now in
    let run = c.args.run in
    let bytes = c.args.bytes.now in
    let read = rw c.in-Some.is at c.in_ok-fault.ensures.read in
    let number : c.first-first.result + c.loop-i.i ≡ index.first + c.loop-i.i = ap (λ (n : ℕ). n + c.loop-i.i) c.first-first.ensures.exact in
    sym (run_next bytes index c.loop-i.i (run.first_frame - c.first-first.result + run.frames) (c.first-first.result + c.loop-i.i) c.frame-body.result c.loop-i.tape c.read_frame.new.tape (Some c.in-Some.fault) (run_rows bytes index run)
    c.loop-i-test.true c.frame-body.ensures number c.loop-i.invariant.read read)

pub returns-in-Some-clause-few : goal.returns-in-Some-clause-few
returns-in-Some-clause-few c =
    let index = c.args.frames.now in
    few_in_run index c.args.run c.requires.laid.0 c.first-first.result c.loop-i.i (length c.loop-i.tape) (length c.read_frame.new.tape) c.frame-body.result c.first-first.ensures.exact c.requires.laid.1 c.frame-body.ensures
    c.loop-i-test.true c.loop-i.invariant.few c.read_frame.ensures.few

pub loop-i-preserved : goal.loop-i-preserved
loop-i-preserved c =
    let index = c.args.frames.now in
    let run = c.args.run in
    let bytes = c.args.bytes.now in
    let read = rw c.in_default.is at c.in_ok-fault.ensures.read in
    let number : c.first-first.result + c.loop-i.i ≡ index.first + c.loop-i.i = ap (λ (n : ℕ). n + c.loop-i.i) c.first-first.ensures.exact in
    let few = few_next index c.requires.laid.0 (run.first_frame - c.first-first.result) c.loop-i.i (run.first_frame - c.first-first.result + run.frames) (length c.loop-i.tape) (length c.read_frame.new.tape) c.frame-body.result c.requires.laid.1 c.frame-body.ensures c.loop-i-test.true c.loop-i.invariant.few c.read_frame.ensures.few in
    record {
      read = run_next bytes index c.loop-i.i (run.first_frame - c.first-first.result + run.frames) (c.first-first.result + c.loop-i.i) c.frame-body.result c.loop-i.tape c.read_frame.new.tape None (run_rows bytes index run)
          c.loop-i-test.true c.frame-body.ensures number c.loop-i.invariant.read read;
      few = few.0;
      has = c.in_ok-fault.ensures.has;
    }
