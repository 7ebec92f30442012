use Rattle.jl_sym.proofs.growing.Growing.finish.Goals as goal

pub returns-clause-held : goal.returns-clause-held
returns-clause-held c bytes has = record {
  writes = has.writes;
  subject = c.left.ensures.held bytes has.subject;
  predicate = c.left-2.ensures.held bytes has.predicate;
  object = c.left-3.ensures.held bytes has.object;
  graph = c.left-4.ensures.held bytes has.graph;
  open_graph = c.left-5.ensures.held bytes has.open_graph;
}
