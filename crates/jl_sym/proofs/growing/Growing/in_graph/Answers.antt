use Rattle.jl_sym.specs.Checked.{options_of}
use Rattle.jl_sym.specs.Seen.{growing_seen, demands_seen}
use Rattle.jl_sym.proofs.GrowLemmas.{in_graph_grows}
use Rattle.jl_sym.proofs.growing.Growing.in_graph.Goals as goal

pub returns-clause-grows : goal.returns-clause-grows
returns-clause-grows c =
    let here = c.args.here.now in
    in_graph_grows (options_of here) (growing_seen here.bytes.now c.args.self.now) here.place.now c.requires.fit.made (demands_seen c.has.new.demands.items) c.has.result c.has.ensures.asks c.has.ensures.good.good.within
