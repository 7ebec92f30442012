use Rattle.std.proofs.Common.{[], ◌∷◌, ◌++◌, Option, sym, subst}
use Rattle.jl_base.specs.Terms.{Item, Value}
use Rattle.jl_base.specs.Spans.{text_of}
use Rattle.jl_rows.specs.Seen.{options_seen, row_seen}
use Rattle.jl_state.specs.Extents.{text_in}
use Rattle.jl_state.specs.Lawful.{state_seen, statement_of}
use Rattle.jl_lines.specs.Writings.{written}
use Rattle.jl_lines.proofs.Appending.{one_item, namespace_counted, statement_counted}
use Rattle.jl_lines.specs.Pages.{IsStill}
use Rattle.jl_lines.proofs.RepeatingSteps.{step_subject, step_predicate, step_object, step_nothing}
use Rattle.jl_lines.proofs.decoding.Decoding.row.Goals as goal

pub returns-in_ok-statement-in-Statement-clause-exact :
    goal.returns-in_ok-statement-in-Statement-clause-exact
returns-in_ok-statement-in-Statement-clause-exact c =
    let said = rw c.in-Statement.is at c.in_ok-step.ensures.exact in
    let options = c.in_ok-step.ensures.options in
    let o = options_seen c.args.bytes.now c.args.self.now.state.options in
    let t = state_seen c.args.bytes.now c.step.new.self in (
      statement_of o t ∷ [],
      said,
      one_item (written c.args.self.now.writing) _ _ _ (rw options at c.in_ok-statement-in-Statement.ensures.text),
      sym (statement_counted c.args.self.now.counts o t),
    )

pub returns-in_ok-namespace-in-Namespace-clause-exact :
    goal.returns-in_ok-namespace-in-Namespace-clause-exact
returns-in_ok-namespace-in-Namespace-clause-exact c =
    let said = rw c.in-Namespace.is at c.in_ok-step.ensures.exact in (
      Item.Namespace (text_of c.args.bytes.now c.in-Namespace.name) (text_in c.args.bytes.now c.in-Namespace.prefix ++ text_in c.args.bytes.now c.in-Namespace.iri) ∷ [],
      said,
      one_item (written c.args.self.now.writing) _ _ _ c.in_ok-namespace-in-Namespace.ensures.text,
      sym (namespace_counted c.args.self.now.counts (text_of c.args.bytes.now c.in-Namespace.name) (text_in c.args.bytes.now c.in-Namespace.prefix ++ text_in c.args.bytes.now c.in-Namespace.iri)),
    )

pub statement-requires-clause-subject : goal.statement-requires-clause-subject
statement-requires-clause-subject c true =
    let said = rw c.in-Statement.is at c.in_ok-step.ensures.exact in
    let o = options_seen c.args.bytes.now c.args.self.now.state.options in
    let left = step_subject o (row_seen c.args.bytes.now c.args.row.now) (state_seen c.args.bytes.now c.args.self.now.state) (state_seen c.args.bytes.now c.step.new.self) _ (c.of-repeats.ensures.subject true) said in
    subst (λ (v : Option Value). IsStill c.args.self.now.page.subject v) (sym left) c.requires.kept.subject

pub statement-requires-clause-predicate : goal.statement-requires-clause-predicate
statement-requires-clause-predicate c true =
    let said = rw c.in-Statement.is at c.in_ok-step.ensures.exact in
    let o = options_seen c.args.bytes.now c.args.self.now.state.options in
    let left = step_predicate o (row_seen c.args.bytes.now c.args.row.now) (state_seen c.args.bytes.now c.args.self.now.state) (state_seen c.args.bytes.now c.step.new.self) _ (c.of-repeats.ensures.predicate true) said in
    subst (λ (v : Option Value). IsStill c.args.self.now.page.predicate v) (sym left) c.requires.kept.predicate

pub statement-requires-clause-object : goal.statement-requires-clause-object
statement-requires-clause-object c true =
    let said = rw c.in-Statement.is at c.in_ok-step.ensures.exact in
    let o = options_seen c.args.bytes.now c.args.self.now.state.options in
    let left = step_object o (row_seen c.args.bytes.now c.args.row.now) (state_seen c.args.bytes.now c.args.self.now.state) (state_seen c.args.bytes.now c.step.new.self) _ (c.of-repeats.ensures.object true) said in
    subst (λ (v : Option Value). IsStill c.args.self.now.page.object v) (sym left) c.requires.kept.object

pub returns-in-Nothing-clause-kept : goal.returns-in-Nothing-clause-kept
returns-in-Nothing-clause-kept c =
    let said = rw c.in-Nothing.is at c.in_ok-step.ensures.exact in
    let o = options_seen c.args.bytes.now c.args.self.now.state.options in
    let left = step_nothing o (row_seen c.args.bytes.now c.args.row.now) (state_seen c.args.bytes.now c.args.self.now.state) (state_seen c.args.bytes.now c.step.new.self) said in
    record {
      lawful = c.in_ok-step.ensures.lawful;
      subject = subst (λ (v : Option Value). IsStill c.args.self.now.page.subject v) (sym left.subject) c.requires.kept.subject;
      predicate = subst (λ (v : Option Value). IsStill c.args.self.now.page.predicate v) (sym left.predicate) c.requires.kept.predicate;
      object = subst (λ (v : Option Value). IsStill c.args.self.now.page.object v) (sym left.object) c.requires.kept.object;
    }
