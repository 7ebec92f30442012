use Rattle.std.proofs.lemmas.Result.{err_from_is_err_and}
use Rattle.jl_sym.specs.Checked.{options_of}
use Rattle.jl_sym.specs.Seen.{growing_seen, demands_seen}
use Rattle.jl_sym.proofs.GrowLemmas.{closes_grows, closes_stopped}
use Rattle.jl_sym.proofs.growing.Growing.closes.Goals as goal

pub returns-in_err-has-clause-grows : goal.returns-in_err-has-clause-grows
returns-in_err-has-clause-grows c =
    let q = err_from_is_err_and c.from_residual.result c.from_residual.ensures.1 in
    let here = c.args.here.now in
    rw (q.1, q.2)
    (closes_stopped (options_of here) (growing_seen here.bytes.now c.args.self.now) here.place.now c.requires.fit.made (demands_seen c.has.new.demands.items) c.in_err-has.field-0.0 c.in_err-has.ensures.asks c.in_err-has.ensures.good.good.within)

pub returns-clause-grows : goal.returns-clause-grows
returns-clause-grows c =
    let here = c.args.here.now in
    closes_grows (options_of here) (growing_seen here.bytes.now c.args.self.now) here.place.now c.requires.fit.made (demands_seen c.has.new.demands.items) c.in_ok-has.ensures.asks
