use Rattle.jl_rows.specs.Seen.{options_seen}
use Rattle.try_summaries.proofs.check.in_blocks.Goals as goal

pub of-requires : goal.of-requires
of-requires c = c.unit.ensures.lawful (options_seen c.args.given.now.bytes.now c.args.given.now.options.now) c.args.given.now.bytes.now
