use Rattle.jl_encode.proofs.OptionsRows.{triples_row, quads_row, when_row}
use Rattle.jl_encode.proofs.spelling.push_options_row.Goals as goal

pub returns-in-Triples-clause-ok : goal.returns-in-Triples-clause-ok
returns-in-Triples-clause-ok c = rw c.in-Triples.is (when_row c.extend_from_slice.result c.args.out.now.items c.extend_from_slice.new.self.items _ _ triples_row c.extend_from_slice.ensures.items)

pub returns-in-Quads-clause-ok : goal.returns-in-Quads-clause-ok
returns-in-Quads-clause-ok c = rw c.in-Quads.is (when_row c.extend_from_slice-in-Quads.result c.args.out.now.items c.extend_from_slice-in-Quads.new.self.items _ _ quads_row c.extend_from_slice-in-Quads.ensures.items)
