use Rattle.std.proofs.Common.{[], ◌∷◌, ◌++◌}
use Rattle.jl_base.specs.Terms.{Item}
use Rattle.jl_base.specs.Spans.{text_of}
use Rattle.jl_rows.specs.Seen.{options_seen}
use Rattle.jl_state.specs.Extents.{text_in}
use Rattle.jl_state.specs.Lawful.{state_seen, statement_of}
use Rattle.jl_resolve.proofs.Pushing.{one_more}
use Rattle.jl_resolve.proofs.resolving.take_row.Goals as goal

pub returns-in_ok-push-in-Statement-clause-exact :
    goal.returns-in_ok-push-in-Statement-clause-exact
returns-in_ok-push-in-Statement-clause-exact c =
    let said = rw c.in-Statement.is at c.in_ok-step.ensures.exact in
    let item = statement_of (options_seen c.args.bytes.now c.args.state.now.options) (state_seen c.args.bytes.now c.step.new.self) in
    let owned = rw c.in_ok-step.ensures.options at c.in_ok-statement-in-Statement.ensures in
    (item ∷ [], said, one_more c.args.items.now c.push.new.self c.in_ok-statement-in-Statement.field-0 item c.in_ok-push-in-Statement.ensures.ok owned)

pub returns-in_ok-push-in-Namespace-clause-exact :
    goal.returns-in_ok-push-in-Namespace-clause-exact
returns-in_ok-push-in-Namespace-clause-exact c =
    let said = rw c.in-Namespace.is at c.in_ok-step.ensures.exact in
    let item = Item.Namespace (text_of c.args.bytes.now c.in-Namespace.name) (text_in c.args.bytes.now c.in-Namespace.prefix ++ text_in c.args.bytes.now c.in-Namespace.iri) in
    (item ∷ [], said, one_more c.args.items.now c.push-in-Namespace.new.self c.in_ok-namespace-in-Namespace.field-0 item c.in_ok-push-in-Namespace.ensures.ok c.in_ok-namespace-in-Namespace.ensures)
