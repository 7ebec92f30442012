use Rattle.std.proofs.lemmas.Result.{err_from_is_err_and}
use Rattle.jl_rows.specs.Seen.{ids_seen}
use Rattle.jl_sym.specs.Checked.{options_of}
use Rattle.jl_sym.specs.Seen.{growing_seen, demands_seen, words_seen}
use Rattle.jl_sym.proofs.GrowLemmas.{reads_grows, reads_stopped}
use Rattle.jl_sym.proofs.growing.Growing.reads.Goals as goal

pub returns-in_err-iri-clause-grows : goal.returns-in_err-iri-clause-grows
returns-in_err-iri-clause-grows c =
    let q = err_from_is_err_and c.from_residual.result c.from_residual.ensures.1 in
    let here = c.args.here.now in
    rw (q.1, q.2)
    (reads_stopped (options_of here) (growing_seen here.bytes.now c.args.self.now) here.place.now (ids_seen c.args.iri) c.requires.fit.made (demands_seen c.iri.new.demands.items) c.in_err-iri.field-0.0 c.in_err-iri.ensures.asks c.in_err-iri.ensures.good.good.within)

pub returns-clause-grows : goal.returns-clause-grows
returns-clause-grows c =
    let here = c.args.here.now in
    reads_grows (options_of here) (growing_seen here.bytes.now c.args.self.now) here.place.now (ids_seen c.args.iri) c.requires.fit.made (demands_seen c.iri.new.demands.items) (words_seen c.iri.new.last) c.in_ok-iri.ensures.asks c.in_ok-iri.ensures.ids
