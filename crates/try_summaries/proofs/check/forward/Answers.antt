use Rattle.std.proofs.Common.{arith}
use Rattle.jl_rows.specs.Seen.{options_seen}
use Rattle.jl_sym.proofs.EntryLemmas.{small_sizes}
use Rattle.try_summaries.proofs.check.forward.Goals as goal

pub by_run-init : goal.by_run-init
by_run-init c = record { within = omega arith; lawful = c.unit-whole.ensures.lawful (options_seen c.args.given.now.bytes.now c.args.given.now.options.now) c.args.given.now.bytes.now }

pub by_run-preserved : goal.by_run-preserved
by_run-preserved c =
    let bytes = c.args.given.now.bytes.now in
    let options = c.args.given.now.options.now in
    record {
      within = c.run_at-run.ensures.end;
      lawful = c.in_ok-append.ensures.lawful (options_seen bytes options) (λ t. small_sizes bytes options t c.requires.file.passed) c.by_run.invariant.lawful c.in_ok-next.ensures.lawful;
    }
