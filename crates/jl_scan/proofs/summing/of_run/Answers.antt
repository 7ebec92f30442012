use Rattle.std.proofs.Common.{ℕ, ◌+◌, List, ap, subst, ◌∙◌, arith}
use Rattle.jl_rows.specs.Seen.{options_seen}
use Rattle.jl_tape.specs.Runs.{run_rows}
use Rattle.jl_compose.specs.Blocks.{seen_all, AreLawful, IsBounded}
use Rattle.jl_compose.specs.Turns.{seen_act, ActsAlike}
use Rattle.jl_sym.specs.Seen.{summary_seen}
use Rattle.jl_scan.specs.Files.{field_of}
use Rattle.jl_scan.proofs.FieldLemmas.{field_is, run_at, sums_run}
use Rattle.jl_scan.proofs.summing.of_run.Goals as goal

pub overflow_add-lo : goal.overflow_add-lo
overflow_add-lo g c = let within = c.requires.within in let all = c.runs-runs.ensures in omega (arith, within, all)

pub summarise-requires-clause-run : goal.summarise-requires-clause-run
summarise-requires-clause-run g c = (c.planned_runs.ensures c.args.file.now.frames.now c.args.file.now.plan.now (c.args.lo + c.args.k) c.run-run.result c.requires.file.cover c.run-run.ensures).within

pub summarise-requires-clause-steps : goal.summarise-requires-clause-steps
summarise-requires-clause-steps g c =
    let w = field_of c.args.file.now c.args.lo in
    let at = run_at w (field_is c.args.file.now c.args.lo c.requires.file) c.args.k c.run-run.result c.run-run.ensures in
    let frames = at.frames in
    let steps = c.requires.steps in
    omega (arith, frames, steps)

pub returns-in_err-summary-clause-ticks : goal.returns-in_err-summary-clause-ticks
returns-in_err-summary-clause-ticks g c =
    let w = field_of c.args.file.now c.args.lo in
    let at = run_at w (field_is c.args.file.now c.args.lo c.requires.file) c.args.k c.run-run.result c.run-run.ensures in
    c.in_err-summary.ensures.ticks ∙ ap (λ (n : ℕ). c.args.steps.now + n) at.frames

pub returns-in_err-block-clause-ticks : goal.returns-in_err-block-clause-ticks
returns-in_err-block-clause-ticks g c =
    let w = field_of c.args.file.now c.args.lo in
    let at = run_at w (field_is c.args.file.now c.args.lo c.requires.file) c.args.k c.run-run.result c.run-run.ensures in
    c.in_ok-summary.ensures.ticks ∙ ap (λ (n : ℕ). c.args.steps.now + n) at.frames

pub returns-clause-ticks : goal.returns-clause-ticks
returns-clause-ticks g c =
    let w = field_of c.args.file.now c.args.lo in
    let at = run_at w (field_is c.args.file.now c.args.lo c.requires.file) c.args.k c.run-run.result c.run-run.ensures in
    c.in_ok-summary.ensures.ticks ∙ ap (λ (n : ℕ). c.args.steps.now + n) at.frames

pub returns-clause-sums : goal.returns-clause-sums
returns-clause-sums g c =
    let w = field_of c.args.file.now c.args.lo in
    let is = field_is c.args.file.now c.args.lo c.requires.file in
    let m = c.in_ok-summary.summary in
    let acts = c.sums_lead.ensures.sums w.options (run_rows w.bytes w.index c.run-run.result) (summary_seen w.bytes m) c.in_ok-summary.ensures.acts in
    let same = c.bytes.ensures.all in
    let o = c.args.file.now.options.now in
    let ms = c.in_ok-block.block.leaves.items in
    let alike = subst (λ (bytes : List ℕ). ActsAlike (options_seen bytes o) (seen_all bytes ms) (seen_act bytes m)) same c.in_ok-block.ensures.acts in
    let lawful = subst (λ (bytes : List ℕ). AreLawful (options_seen bytes o) bytes ms) same c.in_ok-block.ensures.lawful in
    let bounded = subst (λ (bytes : List ℕ). IsBounded (options_seen bytes o) ms) same c.in_ok-block.ensures.bounded in
    sums_run w is c.args.k c.run-run.result m ms c.run-run.ensures c.requires.within acts alike lawful bounded c.in_ok-block.ensures.rows c.in_ok-summary.ensures.rows
