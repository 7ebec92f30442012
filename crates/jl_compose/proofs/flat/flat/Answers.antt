use Rattle.jl_rows.specs.Seen.{options_seen}
use Rattle.jl_sym.proofs.EntryLemmas.{small_sizes}
use Rattle.jl_compose.specs.Turns.{HasTables}
use Rattle.jl_compose.proofs.Leaves.{flat_acts, lawful_made}
use Rattle.jl_compose.proofs.flat.flat.Goals as goal

pub append_all-requires-clause-made : goal.append_all-requires-clause-made
append_all-requires-clause-made c = lawful_made (options_seen c.args.bytes.now c.args.options.now) c.args.bytes.now c.args.first.now c.requires.first

pub append_all-requires-2-clause-made : goal.append_all-requires-2-clause-made
append_all-requires-2-clause-made c = lawful_made (options_seen c.args.bytes.now c.args.options.now) c.args.bytes.now c.args.second.now c.requires.second

pub compact-requires : goal.compact-requires
compact-requires c =
    let bytes = c.args.bytes.now in
    let o = options_seen bytes c.args.options.now in
    let small : HasTables o = λ t. small_sizes bytes c.args.options.now t c.requires.options in
    let mid = c.in_ok-append_all.ensures.lawful o small (c.unit-whole.ensures.lawful o bytes) c.requires.first in
    record { lawful = c.in_ok-append_all-2.ensures.lawful o small mid c.requires.second }

pub returns-clause-acts : goal.returns-clause-acts
returns-clause-acts c =
    let bytes = c.args.bytes.now in
    let o = options_seen bytes c.args.options.now in
    flat_acts o bytes c.unit-whole.result c.append_all.new.whole c.append_all-2.new.whole c.compact.new.summary c.args.first.now c.args.second.now (c.unit-whole.ensures.none bytes) (λ o. c.unit-whole.ensures.lawful o bytes)
    (λ t. small_sizes bytes c.args.options.now t c.requires.options) c.requires.first c.requires.second
    c.in_ok-append_all.ensures.acts c.in_ok-append_all.ensures.lawful c.in_ok-append_all-2.ensures.acts c.in_ok-compact.ensures.acts
