use Rattle.jl_rows.specs.Seen.{options_seen}
use Rattle.jl_sym.proofs.EntryLemmas.{small_sizes}
use Rattle.jl_compose.proofs.tests.flat_of.Goals as goal

pub of-requires : goal.of-requires
of-requires c =
    c.in_ok-both.ensures.lawful (options_seen c.args.rows.now c.args.options.now) (λ t. small_sizes c.args.rows.now c.args.options.now t c.requires.passed) c.in_ok-first.ensures.lawful c.in_ok-second.ensures.lawful
