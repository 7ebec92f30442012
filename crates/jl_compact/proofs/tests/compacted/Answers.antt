use Rattle.std.proofs.Common.{[]}
use Rattle.jl_rows.specs.Seen.{options_seen}
use Rattle.jl_compact.proofs.tests.compacted.Goals as goal

pub compact-requires : goal.compact-requires
compact-requires c = record { lawful = c.asking-summary.ensures (options_seen [] c.tables_of_eight-options.result) [] }
