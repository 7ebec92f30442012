use Rattle.jl_survey.proofs.numbers.Survey.take_first.Goals as goal

-- the numbers are the same, whatever the options are
pub returns-in-Ok-clause-few : goal.returns-in-Ok-clause-few
returns-in-Ok-clause-few c most few = c.add.ensures.few most (record {
  bytes = few.bytes;
  frames = few.frames;
  metadata = few.metadata;
  option_rows = few.option_rows;
  triples = few.triples;
  quads = few.quads;
  graph_starts = few.graph_starts;
  graph_ends = few.graph_ends;
  namespaces = few.namespaces;
  names = few.names;
  prefixes = few.prefixes;
  datatypes = few.datatypes;
})
