use Rattle.std.proofs.Common.{◌∙◌, refl, arith}
use Rattle.std.proofs.lemmas.Result.{err_from_is_err_and}
use Rattle.jl_lines.specs.Going.{outcome}
use Rattle.jl_lines.specs.Stretches.{rest_of}
use Rattle.jl_lines.proofs.GoingLemmas.{halts_then}
use Rattle.jl_lines.proofs.decoding.Decoding.rows.Goals as goal

pub by_row-init : goal.by_row-init
by_row-init c = record {
  start = omega arith;
  inside = c.requires.start;
  rows = omega arith;
  few = omega arith;
  went = λ B. refl;
  kept = c.requires.kept;
  options = refl;
  writing = refl;
}

pub returns-in_err-next-clause-comes : goal.returns-in_err-next-clause-comes
returns-in_err-next-clause-comes c B =
    let p = err_from_is_err_and c.from_residual.result c.from_residual.ensures.1 in
    rw (p.1, p.2)
    (halts_then (outcome c.args.bytes.now c.args.self.now (rest_of c.args.bytes.now c.args.frame c.args.before c.args.at B)) (outcome c.args.bytes.now c.by_row.self (rest_of c.args.bytes.now c.args.frame c.by_row.count c.by_row.place B)) c.next.new.self c.in_err-next.field-0.0
    (c.by_row.invariant.went B) (c.in_err-next.ensures.comes B))

pub returns-then-is_long-clause-comes : goal.returns-then-is_long-clause-comes
returns-then-is_long-clause-comes c B =
    let came = rw c.in-Some.is at (c.in_ok-next.ensures.comes B) in
    c.by_row.invariant.went B ∙ came

pub by_row-preserved : goal.by_row-preserved
by_row-preserved c =
    let within = rw c.in-Some.is at c.in_ok-next.ensures.within in
    record {
      start = omega (arith, within.0, c.by_row.invariant.start);
      inside = within.1;
      rows = omega (arith, within.0, c.by_row.invariant.rows);
      few = omega (arith, within.0, within.2, c.by_row.invariant.few);
      went = λ B. (let came = rw c.in-Some.is at (c.in_ok-next.ensures.comes B) in c.by_row.invariant.went B ∙ came);
      kept = c.in_ok-next.ensures.kept;
      options = c.in_ok-next.ensures.options ∙ c.by_row.invariant.options;
      writing = c.in_ok-next.ensures.writing ∙ c.by_row.invariant.writing;
    }

pub returns-clause-comes : goal.returns-clause-comes
returns-clause-comes c B =
    let came = rw c.in_default.is at (c.in_ok-next.ensures.comes B) in
    c.by_row.invariant.went B ∙ came
