-- Each return is one lemma on what stands in front.
use Rattle.std.proofs.Common.{◌+◌, arith}
use Rattle.std.proofs.lemmas.Result.{err_from_is_err_and}
use Rattle.jl_rows.proofs.FrameLaws.{frames_at_fault, no_length, too_long, cut_off, whole_body, whole_frame}
use Rattle.jl_rows.proofs.frame.next_frame.Goals as goal

pub returns-in_err-len-clause-exact : goal.returns-in_err-len-clause-exact
returns-in_err-len-clause-exact c =
    let p = err_from_is_err_and c.from_residual.result c.from_residual.ensures.1 in
    rw (p.1, p.2) (frames_at_fault c.args.bytes.now c.args.at c.args.end c.in_err-len.field-0.0 (omega arith) c.requires.inside (no_length c.args.bytes.now c.args.at c.args.end c.in_err-len.field-0.0 c.in_err-len.ensures.exact))

pub returns-in_err-len-clause-body : goal.returns-in_err-len-clause-body
returns-in_err-len-clause-body c =
    let p = err_from_is_err_and c.from_residual.result c.from_residual.ensures.1 in
    rw (p.1, p.2) (no_length c.args.bytes.now c.args.at c.args.end c.in_err-len.field-0.0 c.in_err-len.ensures.exact)

pub returns-then-len-gt-MOST_BODY-clause-exact : goal.returns-then-len-gt-MOST_BODY-clause-exact
returns-then-len-gt-MOST_BODY-clause-exact c =
    frames_at_fault c.args.bytes.now c.args.at c.args.end _ (omega arith) c.requires.inside (too_long c.args.bytes.now c.args.at c.args.end c.in_ok-len.start c.in_ok-len.len (omega arith) c.in_ok-len.ensures.exact)

pub returns-then-len-gt-MOST_BODY-clause-body : goal.returns-then-len-gt-MOST_BODY-clause-body
returns-then-len-gt-MOST_BODY-clause-body c = too_long c.args.bytes.now c.args.at c.args.end c.in_ok-len.start c.in_ok-len.len (omega arith) c.in_ok-len.ensures.exact

pub returns-then-len-end-clause-exact : goal.returns-then-len-end-clause-exact
returns-then-len-end-clause-exact c =
    let within = c.in_ok-len.ensures.within in
    frames_at_fault c.args.bytes.now c.args.at c.args.end _ (omega arith) c.requires.inside
    (cut_off c.args.bytes.now c.args.at c.args.end c.in_ok-len.start c.in_ok-len.len (omega arith) (omega (arith, within)) (omega (arith, within)) c.requires.inside (omega arith) c.in_ok-len.ensures.exact)

pub returns-then-len-end-clause-body : goal.returns-then-len-end-clause-body
returns-then-len-end-clause-body c =
    let within = c.in_ok-len.ensures.within in
    cut_off c.args.bytes.now c.args.at c.args.end c.in_ok-len.start c.in_ok-len.len (omega arith) (omega (arith, within)) (omega (arith, within)) c.requires.inside (omega arith) c.in_ok-len.ensures.exact

pub returns-clause-exact : goal.returns-clause-exact
returns-clause-exact c =
    let within = c.in_ok-len.ensures.within in
    whole_frame c.args.bytes.now c.args.at c.args.end c.in_ok-len.start (c.in_ok-len.start + c.in_ok-len.len) (omega (arith, within)) (omega arith) (omega arith)
    (whole_body c.args.bytes.now c.args.at c.args.end c.in_ok-len.start c.in_ok-len.len (omega arith) (omega (arith, within)) (omega (arith, within)) c.requires.inside (omega arith) c.in_ok-len.ensures.exact)

pub returns-clause-body : goal.returns-clause-body
returns-clause-body c =
    let within = c.in_ok-len.ensures.within in
    whole_body c.args.bytes.now c.args.at c.args.end c.in_ok-len.start c.in_ok-len.len (omega arith) (omega (arith, within)) (omega (arith, within)) c.requires.inside (omega arith) c.in_ok-len.ensures.exact
