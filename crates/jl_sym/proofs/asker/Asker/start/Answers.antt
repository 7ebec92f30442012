use Rattle.std.proofs.Common.{◌≡◌, ◌∙◌, Option, Err, ap}
use Rattle.std.proofs.lemmas.Result.{err_from_is_err_and}
use Rattle.jl_base.specs.declared.kind.Kind.TheVariants.{NoTerm, GraphOpen}
use Rattle.jl_rows.specs.declared.row.RawTerm.{RawTerm}
use Rattle.jl_rows.specs.Seen.{position_seen, term_seen}
use Rattle.jl_rows.specs.Values.{Position}
use Rattle.jl_rows.specs.Written.{Term}
use Rattle.jl_state.specs.declared.stop.Stop.TheVariants as stops
use Rattle.jl_sym_laws.specs.Composing.{lacks_left}
use Rattle.jl_sym_laws.specs.SmallSteps.{term_demands}
use Rattle.jl_sym_laws.specs.Summaries.{Kept}
use Rattle.jl_sym.specs.Asking.{perhaps}
use Rattle.jl_sym.specs.Checked.{checked, earlier_of, options_of}
use Rattle.jl_sym.specs.Seen.{words_seen, last_seen, demands_seen}
use Rattle.jl_sym.proofs.AskLemmas.{asks_then, asks_stopped, asks_as, asks_refused, unset_checked}
use Rattle.jl_sym.proofs.asker.Asker.start.Goals as goal

pub returns-in_err-lacks_graph-clause-asks : goal.returns-in_err-lacks_graph-clause-asks
returns-in_err-lacks_graph-clause-asks c =
    let q = err_from_is_err_and c.from_residual.result c.from_residual.ensures.1 in
    let here = c.args.self.now.here.now in
    let o = options_of here in
    rw (q.1, q.2)
    (asks_stopped o (earlier_of c.args.self.now) here.place.now (demands_seen c.args.demands.now.items) (perhaps here.place.now GraphOpen (lacks_left Kept.OpenGraph (last_seen here.bytes.now c.args.left.now)))
    (term_demands here.place.now (words_seen c.args.last.now) (checked o Position.Graph (position_seen here.bytes.now c.args.raw.now))) (demands_seen c.lacks_graph.new.demands.items) c.in_err-lacks_graph.field-0.0 c.in_err-lacks_graph.ensures.asks)

pub returns-in_default-clause-asks : goal.returns-in_default-clause-asks
returns-in_default-clause-asks c =
    let here = c.args.self.now.here.now in
    let o = options_of here in
    let asked = checked o Position.Graph (position_seen here.bytes.now c.args.raw.now) in
    let none : asked ≡ Term.Unset = ap (λ (r : Option RawTerm). checked o Position.Graph (position_seen here.bytes.now r)) c.in_default.is ∙ unset_checked o Position.Graph in
    asks_then o (earlier_of c.args.self.now) here.place.now (demands_seen c.args.demands.now.items) (perhaps here.place.now GraphOpen (lacks_left Kept.OpenGraph (last_seen here.bytes.now c.args.left.now))) (demands_seen c.lacks_graph.new.demands.items)
    (term_demands here.place.now (words_seen c.args.last.now) asked) (demands_seen c.lacks_graph.new.demands.items) (Err (stops.Fault NoTerm)) c.in_ok-lacks_graph.ensures.asks
    (asks_as o (earlier_of c.args.self.now) here.place.now (demands_seen c.lacks_graph.new.demands.items) (words_seen c.args.last.now) asked Term.Unset (demands_seen c.lacks_graph.new.demands.items) (Err (stops.Fault NoTerm)) none
    (asks_refused o (earlier_of c.args.self.now) here.place.now (demands_seen c.lacks_graph.new.demands.items) NoTerm))

pub returns-clause-asks : goal.returns-clause-asks
returns-clause-asks c =
    let here = c.args.self.now.here.now in
    let o = options_of here in
    let asked = checked o Position.Graph (position_seen here.bytes.now c.args.raw.now) in
    let some : asked ≡ checked o Position.Graph (term_seen here.bytes.now c.in-Some.raw) = ap (λ (r : Option RawTerm). checked o Position.Graph (position_seen here.bytes.now r)) c.in-Some.is in
    asks_then o (earlier_of c.args.self.now) here.place.now (demands_seen c.args.demands.now.items) (perhaps here.place.now GraphOpen (lacks_left Kept.OpenGraph (last_seen here.bytes.now c.args.left.now))) (demands_seen c.lacks_graph.new.demands.items)
    (term_demands here.place.now (words_seen c.args.last.now) asked) (demands_seen c.set.new.demands.items) c.set.result c.in_ok-lacks_graph.ensures.asks
    (asks_as o (earlier_of c.args.self.now) here.place.now (demands_seen c.lacks_graph.new.demands.items) (words_seen c.args.last.now) asked (checked o Position.Graph (term_seen here.bytes.now c.in-Some.raw)) (demands_seen c.set.new.demands.items) c.set.result some
    c.set.ensures.asks)
