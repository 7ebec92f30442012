use Rattle.std.proofs.Common.{◌∙◌, sym, ap}
use Rattle.std.proofs.lemmas.Result.{err_from_is_err_and}
use Rattle.jl_rows.specs.Seen.{position_seen}
use Rattle.jl_rows.specs.Values.{Position}
use Rattle.jl_rows.specs.Written.{Term}
use Rattle.jl_sym_laws.specs.RelativeIds.{refs_after}
use Rattle.jl_sym.specs.Checked.{checked, earlier_of, options_of}
use Rattle.jl_sym.specs.Seen.{words_seen, demands_seen}
use Rattle.jl_sym.proofs.AskLemmas.{nested_first, nested_second, nested_third}
use Rattle.jl_sym.proofs.asker.Asker.+ask.Goals as goal

pub three-returns-in_err-inner-clause-asks : goal.three-returns-in_err-inner-clause-asks
three-returns-in_err-inner-clause-asks t c =
    let q = err_from_is_err_and c.from_residual.result c.from_residual.ensures.1 in
    let o = options_of c.args.self.now.here.now in
    let bytes = c.args.self.now.here.now.bytes.now in
    let x = checked o Position.Subject (position_seen bytes c.args.terms.now.s) in
    let y = checked o Position.Predicate (position_seen bytes c.args.terms.now.p) in
    let z = checked o Position.Object (position_seen bytes c.args.terms.now.o) in
    rw (q.1, q.2)
    (nested_first o (earlier_of c.args.self.now) c.args.self.now.here.now.place.now (demands_seen c.args.demands.now.items) (demands_seen c.inner.new.demands.items) (words_seen c.args.last.now) (words_seen c.inner.new.last) x y z c.in_err-inner.field-0.0 c.in_err-inner.ensures.asks)

pub three-returns-in_err-inner-2-clause-asks : goal.three-returns-in_err-inner-2-clause-asks
three-returns-in_err-inner-2-clause-asks t c =
    let q = err_from_is_err_and c.from_residual-in_err-inner-2.result c.from_residual-in_err-inner-2.ensures.1 in
    let o = options_of c.args.self.now.here.now in
    let bytes = c.args.self.now.here.now.bytes.now in
    let x = checked o Position.Subject (position_seen bytes c.args.terms.now.s) in
    let y = checked o Position.Predicate (position_seen bytes c.args.terms.now.p) in
    let z = checked o Position.Object (position_seen bytes c.args.terms.now.o) in
    let last = c.in_ok-inner.ensures.ids ∙ ap (λ (u : Term). refs_after u (words_seen c.args.last.now)) (sym c.in_ok-inner.ensures.same) in
    rw (q.1, q.2)
    (nested_second o (earlier_of c.args.self.now) c.args.self.now.here.now.place.now (demands_seen c.args.demands.now.items) (demands_seen c.inner.new.demands.items) (words_seen c.args.last.now) (words_seen c.inner.new.last) x y z
    (demands_seen c.inner-2.new.demands.items) c.in_ok-inner.ensures.asks last c.in_err-inner-2.field-0.0 c.in_err-inner-2.ensures.asks)

pub three-returns-clause-asks : goal.three-returns-clause-asks
three-returns-clause-asks t c =
    let o = options_of c.args.self.now.here.now in
    let bytes = c.args.self.now.here.now.bytes.now in
    let x = checked o Position.Subject (position_seen bytes c.args.terms.now.s) in
    let y = checked o Position.Predicate (position_seen bytes c.args.terms.now.p) in
    let z = checked o Position.Object (position_seen bytes c.args.terms.now.o) in
    let last = c.in_ok-inner.ensures.ids ∙ ap (λ (u : Term). refs_after u (words_seen c.args.last.now)) (sym c.in_ok-inner.ensures.same) in
    let last2 = c.in_ok-inner-2.ensures.ids ∙ ap (λ (u : Term). refs_after u (words_seen c.inner.new.last)) (sym c.in_ok-inner-2.ensures.same) in
    nested_third o (earlier_of c.args.self.now) c.args.self.now.here.now.place.now (demands_seen c.args.demands.now.items) (demands_seen c.inner.new.demands.items) (words_seen c.args.last.now) (words_seen c.inner.new.last) x y z
    (demands_seen c.inner-2.new.demands.items) c.in_ok-inner.ensures.asks last (demands_seen c.inner-3.new.demands.items) (words_seen c.inner-2.new.last) c.inner-3.result c.in_ok-inner-2.ensures.asks last2 c.inner-3.ensures.asks
